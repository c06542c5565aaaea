use Rattle.std.proofs.Common.{◌∙◌, ◌≤◌, ◌<◌, length, refl, sym, ap, subst, arith, Some}
use Rattle.std.specs.Prelude.{◌≡◌, false}
use Rattle.std.specs.Option.{is_some}
use mathlib.Core.List.{IsPrefix}
use Rattle.left_right.specs.Sides.{view}
use Rattle.mapshare.proofs.Entering.{at_some, away_entered, behind, known_begins, of_reader}
use Rattle.mapshare.proofs.Seeing.{sees}
use Rattle.mapshare.proofs.reader.Reader.enter.Goals as goal

pub enter_as-requires : goal.enter_as-requires
enter_as-requires g c x = sees g.S.Sharing.opening _ _ x

pub returns-then-len : goal.returns-then-len
returns-then-len g c =
    let a = c.self.inside in
    let prefix = c.prefix-prefix.result in
    let was : a.end ≡ Some c.in-Some.end = cc c.in-Some.ensures.value in
    let before : IsPrefix a.seen (view c.in-Some.end.place).seen = at_some _ a.end c.in-Some.end was c.self.invariant in
    let begins : IsPrefix (view c.in-Some.end.place).seen prefix = subst (IsPrefix (view c.in-Some.end.place).seen) (sym c.prefix-prefix.ensures) c.in-Ok.ensures.1.1 in
    let less : length prefix < length a.known = omega (arith, c.if-len.true, c.len.ensures, c.len-in-Ok.ensures) in (
      (refl, (λ w. tt), ap (of_reader a.known a.seen) (sym (ap is_some was)) ∙ c.self.view_is),
      record {
        closed = tt;
        same_reference = tt;
        known = tt;
        knows = tt;
        behind = λ e. rw (← c.self.view_is) (behind a.seen (view c.in-Some.end.place).seen prefix a.known before begins less);
      },
    )

pub returns-else-len : goal.returns-else-len
returns-else-len g c =
    let prefix = c.prefix-prefix.result in
    let known = c.self.inside.known in
    let away : is_some c.take.new.self ≡ false = ap is_some c.take.ensures.after in
    let least : length known ≤ length prefix = omega (arith, c.if-len.false, c.len.ensures, c.len-in-Ok.ensures) in
    let begins : IsPrefix known prefix = known_begins prefix known c.longer-both.result c.longer-both.ensures.one c.longer-both.ensures.this c.longer-both.ensures.that least in (
      (refl, (λ w. refl), tt),
      record {
        closed = tt;
        same_reference = refl;
        known = rw (← c.self.view_is) (subst (λ l. IsPrefix known l) c.prefix-prefix.ensures begins);
        knows = rw away (away_entered prefix c.copy.result _ c.copy.ensures c.prefix-prefix.ensures);
        behind = λ e. absurd (cc e);
      },
    )
