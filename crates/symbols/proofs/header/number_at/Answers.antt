use Rattle.std.proofs.Common.{◌-◌, length, take, drop}
use Rattle.std.specs.Char.{is_ascii_digit}
use Rattle.symbols.proofs.Capping.{digits-front}
use Rattle.symbols.proofs.header.number_at.Goals as goal

pub value_of-requires : goal.value_of-requires
value_of-requires c =
    let bytes = c.args.bytes.now in
    let after = take (length bytes - c.args.at) (drop c.args.at bytes) in
    let rest = take (length after - c.blanks_len.result) (drop c.blanks_len.result after) in
    rw c.digits_len-digits.ensures.value (digits-front is_ascii_digit rest)
