use Rattle.std.proofs.Common.{◌≡◌, ◌++◌, ◌∷◌, [], All, length, sym, ap, subst, arith}
use Rattle.std.proofs.lemmas.List.{length-append}
use Rattle.std.proofs.lemmas.List.Elements.{All-append, All-cons, All-nil}
use Rattle.mapshare.specs.Reader.{ReaderValue, free}
use Rattle.mapshare.proofs.Seeing.{admits}
use Rattle.mapshare.proofs.opening.readers_of.Goals as goal

pub reader-requires : goal.reader-requires
reader-requires g c = admits g.S.Sharing.opening

pub loop-preserved : goal.loop-preserved
loop-preserved g c =
    let before = c.loop.readers.items in
    let grown : c.push.new.self.items ≡ before ++ c.new.result ∷ [] = c.in_ok-push.ensures.items in
    let is : c.new.result ≡ free [] = c.new.ensures in (
      omega (arith, ap length grown, length-append before (c.new.result ∷ []), c.loop.invariant.0),
      subst (All (λ (reader : ReaderValue). reader ≡ free [])) (sym grown) (All-append (λ (reader : ReaderValue). reader ≡ free []) before (c.new.result ∷ []) c.loop.invariant.1 (All-cons (λ (reader : ReaderValue). reader ≡ free []) c.new.result [] is (All-nil (λ (reader : ReaderValue). reader ≡ free [])))),
    )
