-- What bytes decide: by a whole head, or because no head can come.
use Rattle.std.proofs.Common.{◌≡◌, ◌∙◌, Bool, ℕ, ◌<◌, ◌≤◌, ◌||◌, ◌==◌, Some, inl, inr, List, [], ◌++◌, true, false, length, take, drop, map, refl, sym, ap, subst, arith, append-nil, take-append-drop}
use Rattle.std.proofs.lemmas.Bool.Decides.{leb_tells}
use Rattle.std.proofs.lemmas.List.{take-take, take_all, length-map, length-take}
use Rattle.std.proofs.Math.Seq.{take-append_seam}
use Rattle.std.specs.List.{list_any}
use Rattle.httparse.specs.Grammar.{RequestHead, print_request}
use Rattle.httparse.specs.Spans.{span_bytes, header_bytes, name_and_value, IsWithin, IsRequestAt, RequestOverflows}
use Rattle.httparse.specs.declared.spans.HeaderSpan.{HeaderSpan}
use Rattle.httparse.specs.declared.spans.RequestSpans.{RequestSpans}
use Rattle.httparse.proofs.GrammarLemmas.{request_unique}
use Rattle.httpedge.specs.Fields.{announces_body, closes, says_body, says_close}
use Rattle.httpedge.specs.Head.{HasHead, HasNoHead}
use Rattle.httpedge.specs.Meaning.{Refused, head_meaning, request_meaning, decision_meaning}
use Rattle.httpedge.specs.Turn.{Further, AlwaysTurns}
use Rattle.httpedge.specs.Verdict.{Decides, IsJudged}
use Rattle.httpedge.specs.declared.decision.Decision.{Decision}
use Rattle.httpedge.specs.declared.decision.Decision.TheVariants as decision
use Rattle.httpedge.specs.declared.refusal.Refusal.TheVariants.{BadRequest}
use Rattle.httpedge.proofs.Heads.{head-more}

-- the bytes are that head, and no more
pub record IsWhole (bytes : List ℕ) (head : RequestHead) : Type 0 where
  pub has : HasHead bytes head
  pub none : has.rest ≡ []

-- the bytes that the parser returns as a head are one
pub parsed-whole : (bytes : List ℕ) (fields : List HeaderSpan) (r : RequestSpans) (head : RequestHead) → IsRequestAt bytes fields r head → length fields ≤ 64 → length bytes ≤ 16384 → r.len ≤ length bytes →
    IsWhole (take r.len bytes) head
parsed-whole bytes fields r head found room limit len =
    let p = print_request head in
    let prefix : take r.len bytes ≡ p = rw (found.len) (ap (take (length p)) found.reads.1 ∙ take-append_seam p (drop r.len bytes)) in
    let count : length head.fields ≤ length fields =
    omega (arith, ap length found.fields, length-map (take r.headers fields) (header_bytes bytes), length-map head.fields name_and_value, length-take r.headers fields) in
    record {
      has = record {
        rest = [];
        reads = (found.reads.0, prefix ∙ sym (append-nil p));
        bytes = omega (arith, found.len, len, limit);
        fields = omega (arith, count, room);
      };
      none = refl;
    }

whole-alone : (bytes : List ℕ) (head : RequestHead) → IsWhole bytes head → (other : RequestHead) (has : HasHead bytes other) → has.rest ≡ []
whole-alone bytes head whole other has = (request_unique bytes other head has.rest whole.has.rest has.reads whole.has.reads).1 ∙ whole.none

always-by : (bytes : List ℕ) (head : RequestHead) → IsWhole bytes head → announces_body head ≡ false → (is-last closing : Bool) → (closes head || is-last) ≡ closing → AlwaysTurns is-last bytes closing (head_meaning head)
unfolding head-more
always-by bytes head whole none is-last true e = λ more. inl (head, head-more bytes more head whole.has, rw (none, e) refl)
always-by bytes head whole none is-last false e = λ more. inl (head, head-more bytes more head whole.has, rw (none, e) (ap (λ l. Further (head_meaning head) (l ++ more)) (sym whole.none)))

-- a head that announces no body decides what it requests
pub head-decides : (bytes : List ℕ) (head : RequestHead) → IsWhole bytes head → announces_body head ≡ false → Decides bytes (closes head) (head_meaning head)
head-decides bytes head whole none = record {
  turns = λ is-last. always-by bytes head whole none is-last (closes head || is-last) refl;
  whole = whole-alone bytes head whole;
}

-- one that announces a body is refused
pub body-decides : (bytes : List ℕ) (head : RequestHead) → IsWhole bytes head → announces_body head ≡ true → Decides bytes true (Refused BadRequest)
body-decides bytes head whole some = record {
  turns = λ is-last more. inl (head, head-more bytes more head whole.has, rw some refl);
  whole = whole-alone bytes head whole;
}

-- no shorter prefix than a head has one
pub head-shortest : (bytes : List ℕ) (len : ℕ) (head : RequestHead) → IsWhole (take len bytes) head → (n : ℕ) → n ≤ length bytes → HasNoHead (take n bytes) → n ≤ len
head-shortest bytes len head whole n bound none =
    elim (leb_tells n len) [
      | inl short ↦ short.1
      | inr long ↦
          let prefix : take len (take n bytes) ++ drop len (take n bytes) ≡ take n bytes = take-append-drop len (take n bytes) in
          let same : take len (take n bytes) ≡ take len bytes = take-take len n bytes (omega (arith, long.1)) in
          let has : HasHead (take len (take n bytes) ++ drop len (take n bytes)) head = head-more _ (drop len (take n bytes)) head (subst (λ (l : List ℕ). HasHead l head) (sym same) whole.has) in
          absurd (none head (subst (λ (l : List ℕ). HasHead l head) prefix has))
    ]

-- where no head can come, all bytes decide
pub never-judged : (bytes : List ℕ) → HasNoHead bytes → ((is-last : Bool) → AlwaysTurns is-last bytes true (Refused BadRequest)) →
    IsJudged bytes (record { decision = Some (decision.Refused BadRequest); target = record { start = 0; end = 0 }; closes = true; len = length bytes })
never-judged bytes none always = record {
  target = (omega arith, omega arith);
  verdict = record {
    len = omega arith;
    target = rw (take_all (length bytes) bytes (omega arith)) (inr (none, refl));
    decides = rw (take_all (length bytes) bytes (omega arith)) (record { turns = always; whole = λ head has. absurd (none head has) });
    shortest = λ n bound _. bound;
  };
}

-- a test for some field gives the same for the parsed fields as for the fields of the head
same-test : (p : List ℕ × List ℕ → Bool) (bytes : List ℕ) (fields prefix : List HeaderSpan) (r : RequestSpans) (head : RequestHead) → IsRequestAt bytes fields r head → prefix ≡ take r.headers fields →
    list_any p (map (header_bytes bytes) prefix) ≡ list_any p (map name_and_value head.fields)
same-test p bytes fields prefix r head found is = ap (λ l. list_any p (map (header_bytes bytes) l)) is ∙ ap (list_any p) found.fields

-- a head that announces a body
pub body-judged : (bytes : List ℕ) (fields prefix : List HeaderSpan) (r : RequestSpans) (head : RequestHead) (some : Bool) → IsRequestAt bytes fields r head → length fields ≤ 64 → length bytes ≤ 16384 → r.len ≤ length bytes →
    IsWithin r.len r.path → prefix ≡ take r.headers fields → some ≡ list_any says_body (map (header_bytes bytes) prefix) → some ≡ true →
    IsJudged bytes (record { decision = Some (decision.Refused BadRequest); target = r.path; closes = true; len = r.len })
body-judged bytes fields prefix r head some found room limit len within is some-is e =
    let whole = parsed-whole bytes fields r head found room limit len in
    record {
      target = within;
      verdict = record {
        len = len;
        target = inl (head, whole.has, found.path);
        decides = body-decides (take r.len bytes) head whole (sym (same-test says_body bytes fields prefix r head found is) ∙ sym some-is ∙ e);
        shortest = head-shortest bytes r.len head whole;
      };
    }

-- one that announces none
pub head-judged : (bytes : List ℕ) (fields prefix : List HeaderSpan) (r : RequestSpans) (head : RequestHead) (some ending : Bool) (decided : Decision) → IsRequestAt bytes fields r head → length fields ≤ 64 → length bytes ≤ 16384 →
    r.len ≤ length bytes → IsWithin r.len r.path → prefix ≡ take r.headers fields → some ≡ list_any says_body (map (header_bytes bytes) prefix) → some ≡ false →
    ending ≡ ((r.version == 0) || list_any says_close (map (header_bytes bytes) prefix)) →
    decision_meaning decided (span_bytes bytes r.path) ≡ request_meaning (span_bytes bytes r.method) (span_bytes bytes r.path) →
    IsJudged bytes (record { decision = Some decided; target = r.path; closes = ending; len = r.len })
head-judged bytes fields prefix r head some ending decided found room limit len within is some-is e ends means =
    let whole = parsed-whole bytes fields r head found room limit len in
    let none : announces_body head ≡ false = sym (same-test says_body bytes fields prefix r head found is) ∙ sym some-is ∙ e in
    let closing : ending ≡ closes head = ends ∙ rw (same-test says_close bytes fields prefix r head found is, found.version) refl in
    let meaning : decision_meaning decided (span_bytes bytes r.path) ≡ head_meaning head = means ∙ rw (found.method, found.path) refl in
    record {
      target = within;
      verdict = record {
        len = len;
        target = inl (head, whole.has, found.path);
        decides = rw (meaning, closing) (head-decides (take r.len bytes) head whole none);
        shortest = head-shortest bytes r.len head whole;
      };
    }

-- bytes whose heads have too many fields have none
pub overflow-headless : (bytes : List ℕ) → RequestOverflows 64 bytes → HasNoHead bytes
overflow-headless bytes over head has =
    let all : bytes ++ [] ≡ print_request head ++ has.rest = append-nil bytes ∙ has.reads.1 in
    let n : 64 < length head.fields = over [] head has.rest (has.reads.0, all) in
    let f = has.fields in omega arith
