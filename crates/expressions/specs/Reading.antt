-- How a Logic is read, one part after another: what the code's own contracts cite (docs/MAPFILE.md, "Expressions").
use Rattle.std.specs.Prelude.{◌≡◌, ℕ, zero, suc, ◌+◌, ◌-◌, ◌==◌, ◌||◌, ◌&&◌, Bool, false, not, if◌then◌else◌, nat_lt, ℤ, List, [], ◌∷◌, length, take, drop, position, Option, None, Some, Result, Ok, Err, option_map, option_and_then, codes}
use Rattle.std.specs.Char.{is_ascii_digit, to_ascii_lowercase}
use Rattle.std.specs.Option.{option_or}
use Rattle.std.specs.Str.{is_utf8}
use Rattle.geom.specs.Decimal.{reading}
use Rattle.geom.specs.declared.micro.NumberFault.{NumberFault}
use Rattle.geom.specs.declared.micro.TheConstants.{NUMBER_LIMIT}
use Rattle.mapdefs.specs.declared.limits.TheConstants.{MAX_NESTING}
use Rattle.mapdefs.specs.declared.expr.Comparison.{Comparison}
use Rattle.mapdefs.specs.declared.expr.Comparison.TheVariants as comparison
use Rattle.mapdefs.specs.declared.expr.Operand.{Operand}
use Rattle.mapdefs.specs.declared.expr.Operand.TheVariants as operand
use Rattle.mapdefs.specs.declared.expr.Expr.{Expr}
use Rattle.mapdefs.specs.declared.expr.Expr.TheVariants as expr
use Rattle.expressions.specs.declared.logic.Joint.{Joint}
use Rattle.expressions.specs.declared.logic.Joint.TheVariants as joint
use Rattle.expressions.specs.Grammar.{is_space, all_of, any_of, IsLogic}

-- the result of reading: a value, and the bytes after what was read
abbrev pub Reading : Type 0 → Type 0
Reading A = List ℕ → Option (A × List ℕ)

-- the bytes after spaces
abbrev pub after_spaces : List ℕ → List ℕ
after_spaces [] = []
after_spaces (b ∷ bs) = if is_space b then after_spaces bs else b ∷ bs

-- the bytes after a keyword with which they begin, in capitals or not
abbrev pub after_word : List ℕ → List ℕ → Option (List ℕ)
after_word [] bytes = Some bytes
after_word (c ∷ cs) [] = None
after_word (c ∷ cs) (b ∷ bs) = if to_ascii_lowercase b == to_ascii_lowercase c then after_word cs bs else None

-- the bytes after spaces and a keyword
unfoldable pub after_spaced : List ℕ → List ℕ → Option (List ℕ)
after_spaced word bytes = after_word word (after_spaces bytes)

-- the bytes after spaces and one of two keywords
unfoldable pub after_either : List ℕ → List ℕ → List ℕ → Option (List ℕ)
after_either word sign bytes = option_or (after_word word (after_spaces bytes)) (after_word sign (after_spaces bytes))

-- whether some bytes begin with a `q`
abbrev pub begins_q : List ℕ → Bool
begins_q [] = false
begins_q (b ∷ bs) = to_ascii_lowercase b == 113

-- whether a literal number goes on with a byte before others: an `e` before a `q` begins `eq`
abbrev pub is_of_number : ℕ → List ℕ → Bool
is_of_number b bs = is_ascii_digit b || b == 46 || b == 43 || b == 45 || to_ascii_lowercase b == 101 && not (begins_q bs)

-- how many bytes a literal number takes
abbrev pub number_len : List ℕ → ℕ
number_len [] = 0
number_len (b ∷ bs) = if is_of_number b bs then 1 + number_len bs else 0

-- the number of a text, and the bytes after it
abbrev pub literal_number : List ℕ → List ℕ → Result ℤ NumberFault → Option (Operand × List ℕ)
literal_number text rest (Ok value) = Some (operand.Number value text, rest)
literal_number text rest (Err fault) = None

-- the literal number with which some bytes begin
unfoldable pub number_at : Reading Operand
number_at bytes = literal_number (take (number_len bytes) bytes) (drop (number_len bytes) bytes) (reading (take (number_len bytes) bytes) NUMBER_LIMIT)

-- the bytes before one that comes again, and those after it
unfoldable pub split_before : ℕ → List ℕ → Option (List ℕ × List ℕ)
split_before quote bytes = option_map (λ at. (take at bytes, drop (at + 1) bytes)) (position (λ b. b == quote) bytes)

-- whether some bytes are a name of an item
abbrev pub is_name : List ℕ → Bool
is_name bytes = nat_lt 0 (length bytes) && is_utf8 bytes

-- the item that a name names
abbrev pub item_named : List ℕ × List ℕ → Option (Operand × List ℕ)
item_named p = if is_name p.0 then Some (operand.Item p.0, p.1) else None

-- the item whose name and closing bracket stand here
unfoldable pub item_at : Reading Operand
item_at bytes = option_and_then item_named (split_before 93 bytes)

-- the name before a `]`, where nothing stands after that
abbrev pub name_within : List ℕ × List ℕ → Option (List ℕ)
name_within (name, []) = if is_name name then Some name else None
name_within (name, b ∷ bs) = None

-- the name between `[` and `]`, where a text is no more than that
unfoldable pub name_of : List ℕ → Option (List ℕ)
name_of [] = None
name_of (b ∷ bs) = if b == 91 then option_and_then name_within (split_before 93 bs) else None

-- what a quoted text is
abbrev pub quoted_as : List ℕ → Option (List ℕ) → Operand
quoted_as text None = operand.Text text
quoted_as text (Some name) = operand.ItemText name

-- the operand that is the text before a quote, if it is UTF-8
abbrev pub quoted_text : List ℕ × List ℕ → Option (Operand × List ℕ)
quoted_text p = if is_utf8 p.0 then Some (quoted_as p.0 (name_of p.0), p.1) else None

-- the quoted text whose bytes and closing quote stand here
unfoldable pub quoted_at : ℕ → Reading Operand
quoted_at quote bytes = option_and_then quoted_text (split_before quote bytes)

-- the operand with which some bytes begin
abbrev pub operand_from : Reading Operand
operand_from [] = None
operand_from (b ∷ bs) = if b == 91 then item_at bs else (if b == 34 || b == 39 then quoted_at b bs else number_at (b ∷ bs))

-- the operand after spaces
unfoldable pub operand_at : Reading Operand
operand_at bytes = operand_from (after_spaces bytes)

-- two bytes are these
abbrev pub is_pair : ℕ → ℕ → ℕ → ℕ → Bool
is_pair a b first second = a == first && b == second

-- the comparison of two bytes in small letters
unfoldable pub comparison_of_two : ℕ → ℕ → Option Comparison
comparison_of_two a b =
    if is_pair a b 61 61 || is_pair a b 101 113 then Some comparison.Equal
    else (if is_pair a b 33 61 || is_pair a b 110 101 then Some comparison.NotEqual
    else (if is_pair a b 60 61 || is_pair a b 108 101 then Some comparison.AtMost
    else (if is_pair a b 62 61 || is_pair a b 103 101 then Some comparison.AtLeast
    else (if is_pair a b 108 116 then Some comparison.Less
    else (if is_pair a b 103 116 then Some comparison.Greater
    else (if is_pair a b 61 42 then Some comparison.EqualIgnoringCase
    else (if is_pair a b 105 110 then Some comparison.In else None)))))))

-- the comparison of one byte
unfoldable pub comparison_of_one : ℕ → Option Comparison
comparison_of_one a =
    if a == 61 then Some comparison.Equal else (if a == 60 then Some comparison.Less else (if a == 62 then Some comparison.Greater else None))

-- a comparison of two bytes if there is one, else that of the first
abbrev pub or_of_one : ℕ → List ℕ → Option Comparison → List ℕ → Option (Comparison × List ℕ)
or_of_one a bs (Some how) rest = Some (how, rest)
or_of_one a bs None rest = option_map (λ how. (how, bs)) (comparison_of_one a)

-- the comparison with which some bytes begin: of two bytes if it can be, else of one
abbrev pub comparison_from : Reading Comparison
comparison_from [] = None
comparison_from (a ∷ []) = option_map (λ how. (how, [])) (comparison_of_one a)
comparison_from (a ∷ b ∷ bs) = or_of_one a (b ∷ bs) (comparison_of_two (to_ascii_lowercase a) (to_ascii_lowercase b)) bs

-- the comparison after spaces
unfoldable pub comparison_at : Reading Comparison
comparison_at bytes = comparison_from (after_spaces bytes)

-- an operand, a comparison and an operand
unfoldable pub compare_at : Reading Expr
compare_at bytes =
    option_and_then (λ left. option_and_then (λ how. option_map (λ right. (expr.Compare how.0 left.0 right.0, right.1)) (operand_at how.1)) (comparison_at left.1)) (operand_at bytes)

-- the bytes after the keyword that joins parts
abbrev pub after_joint : Joint → List ℕ → Option (List ℕ)
after_joint joint.Or bytes = after_either (codes "OR") (codes "||") bytes
after_joint joint.And bytes = after_either (codes "AND") (codes "&&") bytes

-- what parts are together
abbrev pub joined : Joint → List Expr → Expr
joined joint.Or parts = any_of parts
joined joint.And parts = all_of parts

-- further parts, each after the keyword that joins them, within so many turns
unfoldable pub more_parts : Joint → Reading Expr → ℕ → Reading (List Expr)
more_parts how part zero bytes = None
more_parts how part (suc n) bytes = elim (after_joint how bytes) [
  | None ↦ Some ([], bytes)
  | Some next ↦ option_and_then (λ p. option_map (λ ps. (p.0 ∷ ps.0, ps.1)) (more_parts how part n p.1)) (part next)
]

-- a part and further ones, as what they are together; each takes a byte at least, so that as many turns as bytes are enough
unfoldable pub joined_by : Joint → Reading Expr → Reading Expr
joined_by how part bytes =
    option_and_then (λ p. option_map (λ ps. (joined how (p.0 ∷ ps.0), ps.1)) (more_parts how part (suc (length p.1)) p.1)) (part bytes)

-- the parts between ORs are those between ANDs
abbrev pub part_of : Joint → Reading Expr → Reading Expr
part_of joint.Or part = joined_by joint.And part
part_of joint.And part = part

-- parts between ORs or between ANDs
abbrev pub joined_at : Joint → Reading Expr → Reading Expr
joined_at how part = joined_by how (part_of how part)

-- the bytes before a closing bracket
abbrev pub closed : Expr × List ℕ → Option (Expr × List ℕ)
closed p = option_map (λ rest. (p.0, rest)) (after_spaced (codes ")") p.1)

-- how a part is read after a NOT or after a bracket, by a reader of the parts that are nested in them
abbrev pub part_by : Reading Expr → Reading Expr → Option (List ℕ) → Option (List ℕ) → Reading Expr
part_by negated within (Some rest) opened bytes = option_map (λ p. (expr.Not p.0, p.1)) (negated rest)
part_by negated within None (Some rest) bytes = option_and_then closed (within rest)
part_by negated within None None bytes = compare_at bytes

-- a NOT, a bracket or a comparison
abbrev pub part_with : Reading Expr → Reading Expr → Reading Expr
part_with negated within bytes = part_by negated within (after_either (codes "NOT") (codes "!") bytes) (after_spaced (codes "(") bytes) bytes

-- such a part, with brackets and NOTs within one another as often as the number says
unfoldable pub part_at : ℕ → Reading Expr
part_at zero bytes = part_with (λ rest. None) (λ rest. None) bytes
part_at (suc n) bytes = part_with (part_at n) (joined_at joint.Or (part_at n)) bytes

-- nothing stands after the last bracket
abbrev pub alone : Expr × List ℕ → Option Expr
alone (e, []) = Some e
alone (e, b ∷ bs) = None

-- the tree of a text that begins with a bracket
abbrev pub logic_from : List ℕ → Option Expr
logic_from [] = None
logic_from (b ∷ bs) = if b == 40 then option_and_then alone (option_and_then closed (joined_at joint.Or (part_at (MAX_NESTING - 1)) bs)) else None

-- the tree of a text, if it is a Logic
unfoldable pub logic_of : List ℕ → Option Expr
logic_of text = logic_from text

-- the law that this is the tree to which the grammar relates the text
abbrev pub ReadingFollowsGrammar : Type 0
ReadingFollowsGrammar = (written : List ℕ) (e : Expr) →
    (logic_of written ≡ Some e → IsLogic written e) × (IsLogic written e → logic_of written ≡ Some e)
