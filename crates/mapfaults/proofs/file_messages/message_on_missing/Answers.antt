use Rattle.std.proofs.Common.{◌≡◌, ◌∙◌, Some, refl, sym}
use Rattle.mapfaults.specs.Missing.{first_missing}
use Rattle.mapfaults.proofs.file_messages.message_on_missing.Goals as goal

pub returns-in-Ok-missing_message : goal.returns-in-Ok-missing_message
returns-in-Ok-missing_message c =
    let found : first_missing c.args.files.now c.as_slice.result.now ≡ Some c.in-Some.name.now = sym c.first_missing.ensures ∙ rw c.in-Some.is refl in
    record {
      name = c.in-Some.name.now;
      is_first = rw (c.as_slice.ensures, c.in-Ok.ensures) at found;
      keyword = _;
      says = rw c.as_str.ensures at c.in-Ok-missing_message.ensures;
    }
