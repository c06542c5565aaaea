-- The grammar of a Logic (docs/MAPFILE.md, "Expressions").
use Rattle.std.specs.Prelude.{◌≡◌, ◌≢◌, ◌⊎◌, ℕ, suc, ◌-◌, ◌<◌, ◌==◌, ◌||◌, Bool, ℤ, IsTrue, List, [], ◌∷◌, ◌++◌, length, All, Ok, codes}
use Rattle.std.specs.Str.{is_utf8, str_eq_ignore_ascii_case}
use Rattle.geom.specs.Decimal.{reading}
use Rattle.geom.specs.declared.micro.TheConstants.{NUMBER_LIMIT}
use Rattle.mapdefs.specs.declared.limits.TheConstants.{MAX_NESTING}
use Rattle.mapdefs.specs.declared.expr.Comparison.{Comparison}
use Rattle.mapdefs.specs.declared.expr.Comparison.TheVariants.{Equal, NotEqual, Less, Greater, AtMost, AtLeast, EqualIgnoringCase, In}
use Rattle.mapdefs.specs.declared.expr.Operand.{Operand}
use Rattle.mapdefs.specs.declared.expr.Operand.TheVariants.{Number, Item, ItemText, Text}
use Rattle.mapdefs.specs.declared.expr.Expr.{Expr}
use Rattle.mapdefs.specs.declared.expr.Expr.TheVariants.{Or, And, Not, Compare}

-- a space, a tab, an LF or a CR
abbrev pub is_space : ℕ → Bool
is_space b = b == 32 || b == 9 || b == 10 || b == 13

-- a part is written after spaces, or after none
pub record IsSpaced (IsPart : List ℕ → Type 0) (written : List ℕ) : Type 0 where
  pub spaces : List ℕ
  pub part : List ℕ
  pub whole : written ≡ spaces ++ part
  pub blank : All (λ b. IsTrue (is_space b)) spaces
  pub is : IsPart part

-- a keyword or a sign is written as it is spelled, in capitals or not
abbrev pub IsWord : List ℕ → List ℕ → Type 0
IsWord spelling written = IsTrue (str_eq_ignore_ascii_case written spelling)

-- the keyword between the parts of an OR
abbrev pub IsOrWord : List ℕ → Type 0
IsOrWord written = IsWord (codes "OR") written ⊎ IsWord (codes "||") written

-- the keyword between the parts of an AND
abbrev pub IsAndWord : List ℕ → Type 0
IsAndWord written = IsWord (codes "AND") written ⊎ IsWord (codes "&&") written

-- the keyword before a part that isn't to be true
abbrev pub IsNotWord : List ℕ → Type 0
IsNotWord written = IsWord (codes "NOT") written ⊎ IsWord (codes "!") written

-- the keywords and signs of comparisons
pub data IsComparison (written : List ℕ) : Comparison → Type 0 where
  equal : IsWord (codes "=") written → IsComparison written Equal
  equal_twice : IsWord (codes "==") written → IsComparison written Equal
  eq : IsWord (codes "eq") written → IsComparison written Equal
  not_equal : IsWord (codes "!=") written → IsComparison written NotEqual
  ne : IsWord (codes "ne") written → IsComparison written NotEqual
  less : IsWord (codes "<") written → IsComparison written Less
  lt : IsWord (codes "lt") written → IsComparison written Less
  greater : IsWord (codes ">") written → IsComparison written Greater
  gt : IsWord (codes "gt") written → IsComparison written Greater
  at_most : IsWord (codes "<=") written → IsComparison written AtMost
  le : IsWord (codes "le") written → IsComparison written AtMost
  at_least : IsWord (codes ">=") written → IsComparison written AtLeast
  ge : IsWord (codes "ge") written → IsComparison written AtLeast
  alike : IsWord (codes "=*") written → IsComparison written EqualIgnoringCase
  one_of : IsWord (codes "IN") written → IsComparison written In

-- a name of an item: UTF-8, of one byte or more, none of them `]`
pub record IsName (name : List ℕ) : Type 0 where
  pub utf8 : IsTrue (is_utf8 name)
  pub some : 0 < length name
  pub goes_on : All (λ b. b ≢ 93) name

-- a name between `[` and `]`
abbrev pub bracketed : List ℕ → List ℕ
bracketed name = 91 ∷ (name ++ (93 ∷ []))

-- a text that is UTF-8 stands between two `"` or two `'`, and hasn't that quote in it
pub record IsQuoted (text written : List ℕ) : Type 0 where
  pub quote : ℕ
  pub opens : IsTrue (quote == 34 || quote == 39)
  pub between : written ≡ quote ∷ (text ++ (quote ∷ []))
  pub goes_on : All (λ b. b ≢ quote) text
  pub utf8 : IsTrue (is_utf8 text)

-- a side of a comparison: a number that is within its limit, an item, or a quoted text, which may be exactly an item
pub data IsOperand : List ℕ → Operand → Type 0 where
  number : (text : List ℕ) (value : ℤ) → reading text NUMBER_LIMIT ≡ Ok value → IsOperand text (Number value text)
  item : (name : List ℕ) → IsName name → IsOperand (bracketed name) (Item name)
  item_text : (name written : List ℕ) → IsName name → IsQuoted (bracketed name) written → IsOperand written (ItemText name)
  text : (text written : List ℕ) → IsQuoted text written → ((name : List ℕ) → IsName name → text ≢ bracketed name) → IsOperand written (Text text)

-- one part stands for itself, several are joined by AND
abbrev pub all_of : List Expr → Expr
all_of (part ∷ []) = part
all_of parts = And parts

-- or by OR
abbrev pub any_of : List Expr → Expr
any_of (part ∷ []) = part
any_of parts = Or parts

-- The three levels, with brackets and NOTs within one another as often as the number says, or less often.
mutual
  -- a NOT before such a part, brackets round parts between ORs, or a comparison
  pub data IsPart : ℕ → List ℕ → Expr → Type 0 where
    negated : (n : ℕ) (word text : List ℕ) (e : Expr) → IsSpaced IsNotWord word → IsPart n text e → IsPart (suc n) (word ++ text) (Not e)
    within : (n : ℕ) (open_ text close : List ℕ) (es : List Expr) →
        IsSpaced (IsWord (codes "(")) open_ → AreBetweenOrs n text es → IsSpaced (IsWord (codes ")")) close → IsPart (suc n) (open_ ++ (text ++ close)) (any_of es)
    compares : (n : ℕ) (left sign right : List ℕ) (how : Comparison) (a b : Operand) →
        IsSpaced (λ w. IsOperand w a) left → IsSpaced (λ w. IsComparison w how) sign → IsSpaced (λ w. IsOperand w b) right →
        IsPart n (left ++ (sign ++ right)) (Compare how a b)

  -- at least one such part, with ANDs between them
  pub data AreBetweenAnds : ℕ → List ℕ → List Expr → Type 0 where
    last_and : (n : ℕ) (text : List ℕ) (e : Expr) → IsPart n text e → AreBetweenAnds n text (e ∷ [])
    and : (n : ℕ) (text word others : List ℕ) (e : Expr) (es : List Expr) →
        IsPart n text e → IsSpaced IsAndWord word → AreBetweenAnds n others es → AreBetweenAnds n (text ++ (word ++ others)) (e ∷ es)

  -- at least one of these, with ORs between them
  pub data AreBetweenOrs : ℕ → List ℕ → List Expr → Type 0 where
    last_or : (n : ℕ) (text : List ℕ) (es : List Expr) → AreBetweenAnds n text es → AreBetweenOrs n text (all_of es ∷ [])
    or : (n : ℕ) (text word others : List ℕ) (es fs : List Expr) →
        AreBetweenAnds n text es → IsSpaced IsOrWord word → AreBetweenOrs n others fs → AreBetweenOrs n (text ++ (word ++ others)) (all_of es ∷ fs)

-- a Logic: a bracket, parts between ORs, and the bracket that closes it, which is one of those within one another
pub record IsLogic (written : List ℕ) (e : Expr) : Type 0 where
  pub text : List ℕ
  pub close : List ℕ
  pub parts : List Expr
  pub whole : written ≡ 40 ∷ (text ++ close)
  pub ors : AreBetweenOrs (MAX_NESTING - 1) text parts
  pub closes : IsSpaced (IsWord (codes ")")) close
  pub is : e ≡ any_of parts

-- the law that a text is a Logic in one way
abbrev pub LogicHasOneTree : Type 0
LogicHasOneTree = (written : List ℕ) (e other : Expr) → IsLogic written e → IsLogic written other → e ≡ other
