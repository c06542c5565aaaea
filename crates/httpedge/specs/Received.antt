-- The bytes that came and are kept (RFC 9112; docs/WMS.md, "HTTP").
use Rattle.std.specs.Prelude.{◌≡◌, ◌≤◌, ◌<◌, ◌*◌, ℕ, length, Bool, true, false, ◌==◌, ◌||◌, None}
use Rattle.std.specs.Prelude.{vec_capacity}
use Rattle.std.specs.List.{list_all}
use Rattle.httparse.specs.Spans.{IsWithin}
use Rattle.httpedge.specs.Head.{HasNoHead}
use Rattle.httpedge.specs.declared.received.Received.{Received}

-- a byte that ends a line
abbrev pub is_line_feed : ℕ → Bool
is_line_feed byte = byte == 10

-- a byte of the end of a line
abbrev pub is_newline : ℕ → Bool
is_newline byte = (byte == 13) || (byte == 10)

-- there is room for a head, and the target lies within the bytes. Where nothing is decided, text is noted, and the bytes have no head
-- and are fewer than a head may have. So many of these bytes were parsed that all of them are at most twice as many
pub record IsReceived (received : Received) : Type 0 where
  pub room : 16384 ≤ vec_capacity received.bytes
  pub limit : length received.bytes.items ≤ 16384
  pub target : IsWithin (length received.bytes.items) received.target
  pub blank : received.decision ≡ None → received.has_text ≡ false → list_all is_newline received.bytes.items ≡ true
  pub no_head : received.decision ≡ None → HasNoHead received.bytes.items
  pub below : received.decision ≡ None → length received.bytes.items < 16384
  pub recent : received.decision ≡ None → (received.parsed ≤ length received.bytes.items) × (length received.bytes.items ≤ 2 * received.parsed)
