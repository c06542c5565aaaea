-- The bytes of a response that are to be sent, in two parts of which the first bytes were sent.
use Rattle.std.proofs.Common.{◌≡◌, ◌∙◌, ◌≤◌, ◌+◌, ◌-◌, ℕ, List, [], ◌++◌, inl, inr, length, drop, sym, ap, arith, length-append, length-drop, min, append_assoc, Bool, codes}
use Rattle.httpedge.specs.Outgoing.{answer_head}
use Rattle.httpedge.specs.Response.{body_text, head_end}
use Rattle.std.proofs.lemmas.Bool.Decides.{leb_tells}
use Rattle.std.proofs.lemmas.List.{drop-append-le, drop-drop, drop_all}
use Rattle.std.proofs.Math.Seq.{drop-append-add}
use Rattle.std.proofs.Math.Nat.{min-eq_left, min-eq_right}

-- at most the bytes of the first part were sent of it, and the rest of the second
pub parts-written : (a b : List ℕ) (g h n m : ℕ) → g ≤ length a → m ≡ min n (length a - g) → drop (g + m) a ++ drop (h + (n - m)) b ≡ drop n (drop g a ++ drop h b)
parts-written a b g h n m fits is =
    elim (leb_tells n (length a - g)) [
      | inl few ↦
          let same : m ≡ n = is ∙ min-eq_left few.1 in
          let none : h + (n - m) ≡ h = omega (arith, same) in
          rw (none, same, ← drop-drop n g a) (sym (drop-append-le n (drop g a) (drop h b) (rw (length-drop g a) few.1)))
      | inr many ↦
          let same : m ≡ length a - g = is ∙ min-eq_right (omega (arith, many.1)) in
          let written : drop (g + m) a ≡ [] = drop_all (g + m) a (omega (arith, same, fits)) in
          let all : n ≡ length (drop g a) + (n - m) = omega (arith, length-drop g a, same, many.1) in
          rw written (sym (drop-drop (n - m) h b) ∙ sym (drop-append-add (drop g a) (drop h b) (n - m)) ∙ ap (λ k. drop k (drop g a ++ drop h b)) (sym all))
    ]

-- so many bytes of the second part were sent
pub second-written : (a b : List ℕ) (g h n m : ℕ) → g ≤ length a → h ≤ length b → n ≤ length (drop g a ++ drop h b) → m ≡ min n (length a - g) → h + (n - m) ≤ length b
second-written a b g h n m fits holds few is =
    elim (leb_tells n (length a - g)) [
      | inl all ↦
          let same : m ≡ n = is ∙ min-eq_left all.1 in
          omega (arith, same, holds)
      | inr many ↦
          let same : m ≡ length a - g = is ∙ min-eq_right (omega (arith, many.1)) in
          omega (arith, same, few, length-append (drop g a) (drop h b), length-drop g a, length-drop h b, holds)
    ]

-- pieces one after the other
six : (a m b n d e t : List ℕ) → (((((a ++ m) ++ b) ++ n) ++ d) ++ e) ++ t ≡ a ++ (m ++ (b ++ (n ++ (d ++ (e ++ t)))))
six a m b n d e t =
    append_assoc ((((a ++ m) ++ b) ++ n) ++ d) e t ∙ append_assoc (((a ++ m) ++ b) ++ n) d (e ++ t) ∙ append_assoc ((a ++ m) ++ b) n (d ++ (e ++ t))
    ∙ append_assoc (a ++ m) b (n ++ (d ++ (e ++ t))) ∙ append_assoc a m (b ++ (n ++ (d ++ (e ++ t))))

-- the head of an answer and its body are the answer
pub head-body : (mime count body : List ℕ) (closing : Bool) → answer_head mime count closing ++ body ≡ body_text mime count body closing
unfolding body_text
head-body mime count body closing = six (codes "HTTP/1.1 200 OK\r\nContent-Type: ") mime (codes "\r\nContent-Length: ") count (codes "\r\n") (head_end closing) body
