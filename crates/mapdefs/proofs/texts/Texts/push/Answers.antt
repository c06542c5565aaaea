use Rattle.std.proofs.Common.{◌≡◌, ◌+◌, ◌++◌, ℕ, List, length, string_bytes, arith}
use Rattle.mapdefs.proofs.TextEnds.{ends-more, texts-more}
use Rattle.mapdefs.proofs.texts.Texts.push.Goals as goal

pub invariant_of-self-2 : goal.invariant_of-self-2
invariant_of-self-2 c =
    let bytes : List ℕ = string_bytes c.self.inside.bytes in
    let ends : List ℕ = c.self.inside.ends.items in
    let text = c.args.text.now in
    let pushed : string_bytes c.push_str.new.self ≡ bytes ++ text = c.in_ok-push_str.ensures.bytes in
    let end : c.in-Some.end ≡ length bytes + length text = omega (arith, c.in-Some.ensures, c.len.ensures, c.self.inside.bytes.bytes.ok.0) in
    rw (c.push_reserved.ensures.items, pushed, c.in_ok-reserve.ensures.items, end) (ends-more bytes text 0 ends c.utf8.text c.self.invariant)

pub returns-clause-ok : goal.returns-clause-ok
returns-clause-ok c =
    let bytes : List ℕ = string_bytes c.self.inside.bytes in
    let ends : List ℕ = c.self.inside.ends.items in
    let text = c.args.text.now in
    let pushed : string_bytes c.push_str.new.self ≡ bytes ++ text = c.in_ok-push_str.ensures.bytes in
    let end : c.in-Some.end ≡ length bytes + length text = omega (arith, c.in-Some.ensures, c.len.ensures, c.self.inside.bytes.bytes.ok.0) in
    rw (c.push_reserved.ensures.items, pushed, c.in_ok-reserve.ensures.items, end, ← c.self.view_is) (texts-more bytes text 0 ends c.self.invariant)
