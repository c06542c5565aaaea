use Rattle.std.proofs.Common.{◌∙◌, sym, ap, ℕ, List, Bor}
use Rattle.std.specs.Prelude.{option_map}
use Rattle.mapwords.specs.declared.keyword.Keyword.{Keyword}
use Rattle.mapwords.specs.Keyword.{keywords}
use Rattle.mapwords.proofs.Lookup.{found-in-table}
use Rattle.mapwords.proofs.keyword.Keyword.of.Goals as goal

pub returns-in-Some : goal.returns-in-Some
returns-in-Some c =
    ap (option_map (λ (pair : Keyword × Bor (List ℕ)). pair.0)) (sym c.in-Some.is)
    ∙ found-in-table c.args.text.now keywords c.table.result.now c.first_of.result c.first_of.ensures c.table.ensures

pub returns-in-None : goal.returns-in-None
returns-in-None c =
    ap (option_map (λ (pair : Keyword × Bor (List ℕ)). pair.0)) (sym c.in-None.is)
    ∙ found-in-table c.args.text.now keywords c.table.result.now c.first_of.result c.first_of.ensures c.table.ensures
