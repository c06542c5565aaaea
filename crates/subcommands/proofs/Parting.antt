-- Where a session is split: by its lines, one after the other.
use Rattle.std.proofs.Common.{◌≡◌, ◌∙◌, ℕ, suc, ◌+◌, ◌-◌, ◌<◌, ◌≤◌, Bool, true, false, ◌&&◌, List, [], ◌∷◌, ◌++◌, length, take, drop, inl, inr, refl, ap, arith, length-append, length-drop, length-take, eqb-true, drop-drop, drop_of_length-le}
use Rattle.std.specs.Prelude.{nat_eq, codes, if◌then◌else◌}
use Rattle.std.specs.List.{before_first, after_first, position_or_len}
use Rattle.std.specs.Cmp.Lexicographic.{pointwise, bytes_decides}
use Rattle.std.proofs.lemmas.Bool.{cases_lt}
use Rattle.batches.specs.Command.{is_line_end}
use Rattle.subcommands.specs.Lines.{AreLines}
use Rattle.subcommands.proofs.Lines.{first-line, after-goes-on}
use Rattle.subcommands.specs.Parts.{IsFollowed, IsParted, AreParts}

-- the first line is two percent signs
abbrev pub is_parting : List ℕ → Bool
is_parting bytes = pointwise nat_eq (before_first is_line_end bytes) (codes "%%")

-- how many bytes are before the first such line; the flag says whether a line begins here
abbrev pub parting_at : Bool → List ℕ → ℕ
parting_at at_line [] = 0
parting_at at_line (b ∷ bs) = if at_line && is_parting (b ∷ bs) then 0 else suc (parting_at (is_line_end b) bs)

-- whether a line begins after some bytes; the flag says whether one begins before them
abbrev pub begins_after : Bool → List ℕ → Bool
begins_after at_line [] = at_line
begins_after at_line (b ∷ bs) = begins_after (is_line_end b) bs

-- the bytes begin with such a line
pub parting-follows : (bytes : List ℕ) → is_parting bytes ≡ true → IsFollowed bytes [] (after_first is_line_end bytes)
parting-follows bytes h =
    let line : before_first is_line_end bytes ≡ codes "%%" = (bytes_decides (before_first is_line_end bytes) (codes "%%")).0 h in
    elim (first-line bytes) [
      | inl is ↦ inl (is ∙ ap (λ x. x ++ (10 ∷ after_first is_line_end bytes)) line)
      | inr is ↦ inr (is.0 ∙ line, is.1)
    ]

pub follows-parting : (bytes s : List ℕ) → IsFollowed bytes [] s → is_parting bytes ≡ true
follows-parting bytes s (inl is) = rw is refl
follows-parting bytes s (inr is) = rw is.0 refl

-- whole lines are those after which a line begins
pub lines-begin : (m : List ℕ) → AreLines m → begins_after true m ≡ true
lines-begin m (inl is) = rw is refl
lines-begin m (inr (prefix, is)) = rw is (after prefix true)
  where
    after : (bytes : List ℕ) (at_line : Bool) → begins_after at_line (bytes ++ codes "\n") ≡ true
    after [] at_line = refl
    after (b ∷ bs) at_line = after bs (is_line_end b)

pub begin-lines : (m : List ℕ) → begins_after true m ≡ true → AreLines m
begin-lines [] h = inl refl
begin-lines (b ∷ m) h = inr (last b m h)
  where
    last : (c : ℕ) (bs : List ℕ) → begins_after (is_line_end c) bs ≡ true → (prefix : List ℕ) × (c ∷ bs ≡ prefix ++ codes "\n")
    last c [] h = ([], ap (λ x. x ∷ []) (eqb-true c 10 h))
    last c (d ∷ bs) h = let (prefix, is) = last d bs h in (c ∷ prefix, ap (λ x. c ∷ x) is)

-- a mapfile that such a line follows is no shorter
pub parting-least : (at_line : Bool) (bytes m s : List ℕ) → begins_after at_line m ≡ true → IsFollowed bytes m s → parting_at at_line bytes ≤ length m
parting-least at_line [] m s begins follows = omega arith
parting-least at_line (b ∷ bs) [] s begins follows = rw (begins, follows-parting (b ∷ bs) s follows) (omega arith)
parting-least at_line (b ∷ bs) (c ∷ m) s begins follows =
    by (λ start rest. parting-least (is_line_end b) bs m s start rest) (at_line && is_parting (b ∷ bs)) refl
  where
    same : IsFollowed (b ∷ bs) (c ∷ m) s → (c ≡ b) × IsFollowed bs m s
    same (inl is) = (cc, inl (ap (λ x. drop 1 x) is))
    same (inr is) = (cc, inr (ap (λ x. drop 1 x) is.0, is.1))

    by : (begins_after (is_line_end b) m ≡ true → IsFollowed bs m s → parting_at (is_line_end b) bs ≤ length m) →
        (e : Bool) → (at_line && is_parting (b ∷ bs)) ≡ e → parting_at at_line (b ∷ bs) ≤ suc (length m)
    by others true h = rw h (omega arith)
    by others false h = let (is, rest) = same follows in rw h (omega (arith, others (rw is at begins) rest))

-- where one is found, it is there
pub parting-is : (at_line : Bool) (bytes : List ℕ) → parting_at at_line bytes < length bytes →
    (begins_after at_line (take (parting_at at_line bytes) bytes) ≡ true)
    × IsFollowed bytes (take (parting_at at_line bytes) bytes) (after_first is_line_end (drop (parting_at at_line bytes) bytes))
parting-is at_line [] h = absurd (omega arith)
parting-is at_line (b ∷ bs) h = by (λ short. parting-is (is_line_end b) bs short) (at_line && is_parting (b ∷ bs)) refl
  where
    both : (x y : Bool) → (x && y) ≡ true → (x ≡ true) × (y ≡ true)
    both true true e = (refl, refl)
    both true false e = cc
    both false y e = cc

    longer : (m s : List ℕ) → IsFollowed bs m s → IsFollowed (b ∷ bs) (b ∷ m) s
    longer m s (inl is) = inl (ap (λ x. b ∷ x) is)
    longer m s (inr is) = inr (ap (λ x. b ∷ x) is.0, is.1)

    by : (parting_at (is_line_end b) bs < length bs →
        (begins_after (is_line_end b) (take (parting_at (is_line_end b) bs) bs) ≡ true)
        × IsFollowed bs (take (parting_at (is_line_end b) bs) bs) (after_first is_line_end (drop (parting_at (is_line_end b) bs) bs))) →
        (e : Bool) → (at_line && is_parting (b ∷ bs)) ≡ e →
        (begins_after at_line (take (parting_at at_line (b ∷ bs)) (b ∷ bs)) ≡ true)
        × IsFollowed (b ∷ bs) (take (parting_at at_line (b ∷ bs)) (b ∷ bs)) (after_first is_line_end (drop (parting_at at_line (b ∷ bs)) (b ∷ bs)))
    by others true e = let (begins, here) = both at_line (is_parting (b ∷ bs)) e in rw e (begins, parting-follows (b ∷ bs) here)
    by others false e =
        let (begins, follows) = others (omega (arith, rw e at h)) in
        rw e (begins, longer _ _ follows)

-- the parts of a session
pub are-parts : (session : List ℕ) → parting_at true session < length session →
    AreParts session (take (parting_at true session) session) (after_first is_line_end (drop (parting_at true session) session))
are-parts session h =
    let (begins, follows) = parting-is true session h in
    let least : (m s : List ℕ) → IsParted session m s → length (take (parting_at true session) session) ≤ length m =
    λ m s parted. omega (arith, length-take (parting_at true session) session, parting-least true session m s (lines-begin m parted.0) parted.1) in
    inl (record { parted = (begin-lines _ begins, follows); shortest = least })

pub are-no-parts : (session : List ℕ) → length session ≤ parting_at true session → AreParts session session []
are-no-parts session h = inr (record { never = never; all = refl; none = refl })
  where
    too-long : (m s : List ℕ) → IsFollowed session m s → length m < length session
    too-long m s (inl is) = omega (arith, ap length is, length-append m (codes "%%\n" ++ s))
    too-long m s (inr is) = omega (arith, ap length is.0, length-append m (codes "%%"))

    never : (m s : List ℕ) → IsParted session m s → ⊥
    never m s parted = absurd (omega (arith, h, too-long m s parted.1, parting-least true session m s (lines-begin m parted.0) parted.1))

-- a line that is not two percent signs is skipped
pub line-left : (bytes : List ℕ) →
    parting_at false bytes ≡ (length bytes - length (after_first is_line_end bytes)) + parting_at true (after_first is_line_end bytes)
line-left [] = refl
line-left (b ∷ bs) = by (line-left bs) (is_line_end b) refl
  where
    by : parting_at false bs ≡ (length bs - length (after_first is_line_end bs)) + parting_at true (after_first is_line_end bs) → (e : Bool) → is_line_end b ≡ e →
        parting_at false (b ∷ bs) ≡ (length (b ∷ bs) - length (after_first is_line_end (b ∷ bs))) + parting_at true (after_first is_line_end (b ∷ bs))
    by others true h = rw h (omega arith)
    by others false h = rw (after-goes-on b bs h, h) (omega (arith, others, length-drop (position_or_len is_line_end bs + 1) bs))

pub line-passed : (bytes : List ℕ) → 1 ≤ length bytes → is_parting bytes ≡ false →
    parting_at true bytes ≡ (length bytes - length (after_first is_line_end bytes)) + parting_at true (after_first is_line_end bytes)
line-passed [] some h = absurd (omega arith)
line-passed (b ∷ bs) some h = rw h (line-left (b ∷ bs))

-- the first line of two percent signs is here
pub parted-here : (session here line rest : List ℕ) (at : ℕ) → here ≡ drop at session → line ≡ before_first is_line_end here → rest ≡ after_first is_line_end here →
    at < length session → at + parting_at true (drop at session) ≡ parting_at true session → pointwise nat_eq line (codes "%%") ≡ true →
    AreParts session (take at session) rest
parted-here session here line rest at is prefix back inside first test =
    let parting : is_parting (drop at session) ≡ true = rw (← is, ← prefix) test in
    let none : parting_at true (drop at session) ≡ 0 = parting-here (drop at session) (omega (arith, length-drop at session)) parting in
    let found : parting_at true session ≡ at = omega (arith, first, none) in
    rw (back, is, ← found) (are-parts session (omega (arith, found)))
  where
    parting-here : (bytes : List ℕ) → 1 ≤ length bytes → is_parting bytes ≡ true → parting_at true bytes ≡ 0
    parting-here [] some h = absurd (omega arith)
    parting-here (b ∷ bs) some h = rw h refl

-- no line up to this one is two percent signs: the search for the first such line goes on from there
pub passed-here : (session here line rest : List ℕ) (at : ℕ) → here ≡ drop at session → line ≡ before_first is_line_end here → rest ≡ after_first is_line_end here →
    at < length session → at + parting_at true (drop at session) ≡ parting_at true session → pointwise nat_eq line (codes "%%") ≡ false →
    (length session - length rest) + parting_at true (drop (length session - length rest) session) ≡ parting_at true session
passed-here session here line rest at is prefix back inside first test =
    let n = position_or_len is_line_end (drop at session) + 1 in
    let parting : is_parting (drop at session) ≡ false = rw (← is, ← prefix) test in
    let after : rest ≡ after_first is_line_end (drop at session) = rw (← is) back in
    let later : rest ≡ drop (at + n) session = after ∙ drop-drop n at session in
    let left : drop (length session - length rest) session ≡ rest = rw later (drop-rest (at + n) session) in
    let passed = line-passed (drop at session) (omega (arith, length-drop at session)) parting in
    let on = rw (← after) at passed in
    rw left (omega (arith, first, on, length-drop at session, ap length later, length-drop (at + n) session))
  where
    drop-rest : (n : ℕ) (bytes : List ℕ) → drop (length bytes - length (drop n bytes)) bytes ≡ drop n bytes
    drop-rest n bytes = elim (cases_lt n (length bytes)) [
      | inl short ↦ (let is : length bytes - length (drop n bytes) ≡ n = omega (arith, length-drop n bytes) in ap (λ k. drop k bytes) is)
      | inr long ↦ (let nothing : drop n bytes ≡ [] = drop_of_length-le bytes {i = n} long in rw nothing (drop_of_length-le bytes {i = length bytes - 0} (omega arith)))
    ]
