-- The first command of a script.
use Rattle.std.proofs.Common.{◌≡◌, ◌∙◌, ℕ, ◌-◌, ◌≤◌, List, length, take, drop, Option, None, true, sym, ap, if◌then◌else◌, Bool}
use Rattle.std.specs.List.{after_first, before_first, position_or_len}
use Rattle.batches.specs.Command.{is_line_end}
use Rattle.batches.proofs.Cutting.{after-cut, has-cut}
use Rattle.scripts.specs.Script.{command_of, first_command}
use Rattle.mapmachine.specs.declared.reply.Event.{Event}

-- a script that is split at its first LF, and has one, has the command of the line before it
pub front-is : (script line rest : List ℕ) (end : ℕ) → end ≡ position_or_len is_line_end script →
    line ≡ take end script → rest ≡ drop end script → 1 ≤ length rest → first_command script ≡ command_of line (take (length rest - 1) (drop 1 rest))
front-is script line rest end is front back some =
    ap (λ (t : Bool). if t then command_of (before_first is_line_end script) (after_first is_line_end script) else None) (has-cut is_line_end script rest end is back some)
    ∙ (ap (λ (l : List ℕ). command_of l (after_first is_line_end script)) (sym (front ∙ ap (λ n. take n script) is))
    ∙ ap (command_of line) (sym (after-cut is_line_end script rest end is back)))
