-- What a subcommand's name and matches mean for the rows.
use Rattle.std.proofs.Common.{[], ◌≡◌, ◌∙◌, sym, refl, subst, Bool, true, false, ℕ, List, Option, Some, None, Result, Ok, Err, option_map}
use Rattle.std.specs.Option.{IfSome, ok_or}
use Rattle.std.specs.Prelude.{Box}
use Rattle.std.specs.Result.{IfOk, OnOk}
use Rattle.std.specs.Box.{box_value}
use Rattle.clap.proofs.OnLiterals.{clap_on_literals}
use Rattle.clap.specs.Simple.{HasMatchesOf, is_simple}
use Rattle.clap.specs.Words.{App, ReadsOne, Row, Text, fault_of, is_simple_and_free, subcommand_of, subcommand_rows, subcommand_rows_of, takes}
use Rattle.clap.specs.declared.parser.matches.ArgMatches.{ArgMatches}
use Rattle.clap.specs.declared.parser.matches.SubCommand.{SubCommand}
use Rattle.clap.specs.declared.parser.matches.ArgMatches.TheViews.{out-SubCommand}
use Rattle.std.specs.Str.Parse.{ParsesUnsigned, ExplainsUnsignedError, HasUnsignedDigitsIfOk}
use Rattle.std.specs.declared.num.ParseIntError.{ParseIntError}
use Rattle.clap.specs.declared.parser.matches.Found.{Found}
use Rattle.clap.specs.Words.{one_of, one_text, rows_of}
use Rattle.commandline.specs.Arguments.{app, IsNumber}

pub named : {Z : Type 0} (o : Option (Box SubCommand Z)) (n : Text) (rows : List Row) → Some n ≡ option_map (λ b. (out-SubCommand (box_value b)).name.now) o
    → Some rows ≡ option_map (λ p. p.1) (subcommand_rows o) → subcommand_rows o ≡ Some (n, rows)
named None n rows a b = absurd (cc a)
named (Some s) n rows a b = cc (a, b)

-- the number that a getter read is the one that the entry's text gives
pub one-read : {E : Type 0} (gives : Text → Result ℕ E → Type 0) (o : Option Text) (r : Option ℕ) (n : ℕ) → r ≡ Some n → (o ≡ None → r ≡ None)
    → ((t : Text) → o ≡ Some t → ReadsOne gives t r) → (t : Text) × (o ≡ Some t) × gives t (Ok n)
one-read gives None r n is none some = absurd (let bad : Some n ≡ None = sym is ∙ none refl in cc bad)
one-read gives (Some t) r n is none some = (t, refl, rw is at some t refl)

-- arguments whose fault isn't out of memory are not taken
so-not : (b : Bool) → ¬ (b ≡ true) → b ≡ false
so-not true none = absurd (none refl)
so-not false none = refl

pub not-taken : (program line : App) (arguments : List Text) (refusal : Bool) (K : Type 0) → program ≡ line → (takes program arguments ≡ true → K) → (refusal ≡ true → ¬ K) →
    refusal ≡ true → takes line arguments ≡ false
not-taken program line arguments refusal K same passes none is =
    let P : App → Type 0 = λ a. takes a arguments ≡ true → K in
    so-not (takes line arguments) (λ t. none is (subst P same passes t))

-- the command line is among those that the definitions cover
simple : is_simple app ≡ true
unfolding clap_on_literals
simple = refl

free : is_simple_and_free app ≡ true
unfolding clap_on_literals
free = refl

-- so the matches are those of the arguments, which are taken
pub parsed : (program : App) (arguments : List Text) (m : ArgMatches) → program ≡ app → HasMatchesOf program arguments m → subcommand_rows_of m ≡ subcommand_of app arguments
parsed program arguments m same has = (subst (λ a. HasMatchesOf a arguments m) same has simple).1

pub taken : (program : App) (arguments : List Text) → program ≡ app → (is_simple_and_free program ≡ true → fault_of program arguments ≡ []) → fault_of app arguments ≡ []
taken program arguments same has = subst (λ a. is_simple_and_free a ≡ true → fault_of a arguments ≡ []) same has free

-- a result made of an option has the property of the option's value
pub given : {A E : Type 0} (o : Option A) (e : E) (P : A → Type 0) → IfSome o P → IfOk (ok_or o e) P
given None e P h = tt
given (Some x) e P h = h

pub on-ok : {A E : Type 0} (r : Result A E) (P : Type 0) → P → OnOk r P
on-ok (Ok x) P h = h
on-ok (Err e) P h = tt

-- the number of an option is that of its text
pub numbered : (bits : ℕ) (inner : Found) (name : Text) → one_text inner name ≡ one_of name (rows_of inner) → (r : Option ℕ) → (one_text inner name ≡ None → r ≡ None)
    → ((t : Text) → one_text inner name ≡ Some t → ReadsOne (λ bs r. ParsesUnsigned {E = ParseIntError} bits 10 bs r × ExplainsUnsignedError 10 bs r × HasUnsignedDigitsIfOk bs r) t r) → IfSome r (IsNumber bits name (rows_of inner))
numbered bits inner name same None none some = tt
numbered bits inner name same (Some n) none some =
    let (t, text, reads) = one-read (λ bs r. ParsesUnsigned {E = ParseIntError} bits 10 bs r × ExplainsUnsignedError 10 bs r × HasUnsignedDigitsIfOk bs r) (one_text inner name) (Some n) n refl none some in
    (t, sym same ∙ text, reads.0)
