use Rattle.std.proofs.Common.{◌≡◌, ◌-◌, ◌∷◌, [], ◌++◌, length, Some, sym, ◌∙◌, ap, arith, length-append}
use Rattle.std.proofs.lemmas.Result.{err_from_is_err_and}
use Rattle.std.specs.Option.{option_copied}
use Rattle.mapdefs.specs.declared.expr.Expr.TheVariants.{Not}
use Rattle.expressions.specs.declared.logic.Joint.TheVariants.{Or}
use Rattle.expressions.specs.Reading.{part_of, joined_at, part_at}
use Rattle.expressions.proofs.Parts.{goes_on, joined_by-none, joined_by-alone, joined_by-more, goes_on-none, goes_on-ends, goes_on-more, stop-by, part_at-not, part_at-deep-not, part_at-open, part_at-deep-open, part_at-compare}
use Rattle.expressions.proofs.logic.+logic.Goals as goal

pub joined_at-returns-in_err-first-clause-value : goal.joined_at-returns-in_err-first-clause-value
joined_at-returns-in_err-first-clause-value t c =
    let p = err_from_is_err_and c.from_residual.result c.from_residual.ensures.1 in
    let part = part_of c.args.joint (part_at c.args.room) in
    rw (p.1, p.2) (stop-by (part c.args.text.now) (joined_at c.args.joint (part_at c.args.room) c.args.text.now) _ (joined_by-none c.args.joint part c.args.text.now) c.in_err-first.ensures.value)

pub joined_at-returns-in_default-clause-value : goal.joined_at-returns-in_default-clause-value
joined_at-returns-in_default-clause-value t c =
    joined_by-alone c.args.joint (part_of c.args.joint (part_at c.args.room)) c.args.text.now c.in_ok-first.rest.now c.in_ok-first.first c.in_ok-first.ensures.value
    (sym c.after_joint.ensures.value ∙ ap option_copied c.in_default.is)

pub joined_at-loop-parts-init : goal.joined_at-loop-parts-init
joined_at-loop-parts-init t c =
    let part = part_of c.args.joint (part_at c.args.room) in
    let alone : c.push.new.self ≡ c.in_ok-first.first ∷ [] = c.in_ok-push.ensures.ok ∙ ap (λ es. es ++ c.in_ok-first.first ∷ []) c.new-parts.ensures in (
      length c.in_ok-first.rest.now,
      omega (arith, c.in-Some.ensures.shorter),
      omega (arith, ap length alone),
      omega (arith, c.in-Some.ensures.shorter, c.in_ok-first.ensures.shorter),
      joined_by-more c.args.joint part c.args.text.now c.in_ok-first.rest.now c.in-Some.next.now c.in_ok-first.first c.in_ok-first.ensures.value (sym c.in-Some.ensures.value)
          ∙ ap (λ es. goes_on c.args.joint part es (length c.in_ok-first.rest.now) c.in-Some.next.now) (sym alone),
    )

pub joined_at-returns-in_err-part-clause-value : goal.joined_at-returns-in_err-part-clause-value
joined_at-returns-in_err-part-clause-value t c =
    let p = err_from_is_err_and c.from_residual-in_err-part.result c.from_residual-in_err-part.ensures.1 in
    let part = part_of c.args.joint (part_at c.args.room) in
    let l = c.loop-parts in
    rw (p.1, p.2) (stop-by (part l.next.now) (joined_at c.args.joint (part_at c.args.room) c.args.text.now) _
    (λ none. l.invariant.4 ∙ goes_on-none c.args.joint part l.parts l.invariant.0 l.next.now none) c.in_err-part.ensures.value)

pub joined_at-loop-parts-preserved : goal.joined_at-loop-parts-preserved
joined_at-loop-parts-preserved t c =
    let part = part_of c.args.joint (part_at c.args.room) in
    let l = c.loop-parts in
    let n = l.invariant.0 in
    let rest = c.in_ok-part.rest.now in
    let further = c.in-Some-after_joint.further.now in
    let pushed : c.push-in-loop-parts.new.self ≡ l.parts ++ c.in_ok-part.part ∷ [] = c.in_ok-push-2.ensures.ok in (
      n - 1,
      omega (arith, l.invariant.1, c.in_ok-part.ensures.shorter, c.in-Some-after_joint.ensures.shorter),
      omega (arith, ap length pushed, length-append l.parts (c.in_ok-part.part ∷ [])),
      omega (arith, l.invariant.3, c.in_ok-part.ensures.shorter, c.in-Some-after_joint.ensures.shorter),
      l.invariant.4
          ∙ goes_on-more c.args.joint part l.parts n l.next.now rest further c.in_ok-part.part (omega (arith, l.invariant.1, c.in_ok-part.ensures.shorter)) c.in_ok-part.ensures.value (sym c.in-Some-after_joint.ensures.value)
          ∙ ap (λ es. goes_on c.args.joint part es (n - 1) further) (sym pushed),
    )

pub joined_at-returns-in-None-clause-value : goal.joined_at-returns-in-None-clause-value
joined_at-returns-in-None-clause-value t c =
    let part = part_of c.args.joint (part_at c.args.room) in
    let l = c.loop-parts in
    let rest = c.in_ok-part.rest.now in
    l.invariant.4
    ∙ goes_on-ends c.args.joint part l.parts l.invariant.0 l.next.now rest c.in_ok-part.part (omega (arith, l.invariant.1, c.in_ok-part.ensures.shorter)) c.in_ok-part.ensures.value
    (sym c.after_joint-in-loop-parts.ensures.value ∙ ap option_copied c.in-None.is)
    ∙ ap (λ e. Some (e, rest)) (sym (rw c.in_ok-push-2.ensures.ok at c.joined.ensures))

pub joined_at-returns-in-None-clause-shorter : goal.joined_at-returns-in-None-clause-shorter
joined_at-returns-in-None-clause-shorter t c = omega (arith, c.loop-parts.invariant.3, c.in_ok-part.ensures.shorter)

pub joined_at-joined-requires : goal.joined_at-joined-requires
joined_at-joined-requires t c = omega (arith, c.loop-parts.invariant.2, ap length c.in_ok-push-2.ensures.ok, length-append c.loop-parts.parts (c.in_ok-part.part ∷ []))

pub part_at-returns-then-room-eq0-clause-value : goal.part_at-returns-then-room-eq0-clause-value
part_at-returns-then-room-eq0-clause-value t c = part_at-deep-not c.args.room c.args.text.now c.in-Some.rest.now (omega arith) (sym c.in-Some.ensures.value)

pub part_at-returns-in-Some-clause-value : goal.part_at-returns-in-Some-clause-value
part_at-returns-in-Some-clause-value t c =
    part_at-not c.args.room c.args.text.now c.in-Some.rest.now (omega arith) (sym c.in-Some.ensures.value)
    ∙ rw c.in_ok-part.ensures.value (ap (λ e. Some (Not e, c.in_ok-part.rest.now)) (sym c.in_ok-new.ensures))

pub part_at-returns-in_err-part-clause-value : goal.part_at-returns-in_err-part-clause-value
part_at-returns-in_err-part-clause-value t c =
    let p = err_from_is_err_and c.from_residual.result c.from_residual.ensures.1 in
    rw (p.1, p.2) (stop-by (part_at (c.args.room - 1) c.in-Some.rest.now) (part_at c.args.room c.args.text.now) _
    (λ none. part_at-not c.args.room c.args.text.now c.in-Some.rest.now (omega arith) (sym c.in-Some.ensures.value) ∙ rw none) c.in_err-part.ensures.value)

pub part_at-returns-then-room-eq0-2-clause-value : goal.part_at-returns-then-room-eq0-2-clause-value
part_at-returns-then-room-eq0-2-clause-value t c =
    part_at-deep-open c.args.room c.args.text.now c.in-Some-after_spaced.rest.now (omega arith) (sym c.after_either.ensures.value ∙ ap option_copied c.in_default.is) (sym c.in-Some-after_spaced.ensures.value)

pub part_at-returns-in_err-expr-clause-value : goal.part_at-returns-in_err-expr-clause-value
part_at-returns-in_err-expr-clause-value t c =
    let p = err_from_is_err_and c.from_residual-in_err-expr.result c.from_residual-in_err-expr.ensures.1 in
    rw (p.1, p.2) (stop-by (joined_at Or (part_at (c.args.room - 1)) c.in-Some-after_spaced.rest.now) (part_at c.args.room c.args.text.now) _
    (λ none. part_at-open c.args.room c.args.text.now c.in-Some-after_spaced.rest.now (omega arith) (sym c.after_either.ensures.value ∙ ap option_copied c.in_default.is) (sym c.in-Some-after_spaced.ensures.value) ∙ rw none)
    c.in_err-expr.ensures.value)

pub part_at-returns-in-Some-after_spaced-clause-value : goal.part_at-returns-in-Some-after_spaced-clause-value
part_at-returns-in-Some-after_spaced-clause-value t c =
    let opened = part_at-open c.args.room c.args.text.now c.in-Some-after_spaced.rest.now (omega arith) (sym c.after_either.ensures.value ∙ ap option_copied c.in_default.is) (sym c.in-Some-after_spaced.ensures.value) in
    rw (opened, c.in_ok-expr.ensures.value) c.closed.ensures.value

pub part_at-returns-clause-value : goal.part_at-returns-clause-value
part_at-returns-clause-value t c =
    rw (part_at-compare c.args.room c.args.text.now (sym c.after_either.ensures.value ∙ ap option_copied c.in_default.is) (sym c.after_spaced.ensures.value ∙ ap option_copied c.in_default-after_spaced.is)) c.compare_at.ensures.value
