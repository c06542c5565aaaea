use Rattle.std.proofs.Common.{Ok, IfOk, IfErr, subst}
use Rattle.wmsquery.specs.Meaning.{IsMeaningOf, IsMeaningErrorOf}
use Rattle.wmsquery.specs.Pairs.{Texts, pairs_of, texts_of}
use Rattle.wmsquery.specs.Slots.{kept}
use Rattle.wmsquery.proofs.Account.{request-meant, error-meant}
use Rattle.wmsquery.proofs.SameTexts.{same-texts}
use Rattle.wmsquery.proofs.query.read.Goals as goal

pub returns-clause-request : goal.returns-clause-request
returns-clause-request c =
    subst (λ (t : Texts). IfOk c.read_texts.result (λ r. IsMeaningOf c.args.map.now c.args.sequence t (Ok r)))
    (same-texts (kept c.in_ok-texts.texts) (texts_of (pairs_of c.args.query.now)) c.in_ok-texts.ensures)
    (request-meant c.args.map.now c.args.sequence (kept c.in_ok-texts.texts) c.read_texts.result c.read_texts.ensures.value)

pub returns-clause-fault : goal.returns-clause-fault
returns-clause-fault c =
    subst (λ (t : Texts). IfErr c.read_texts.result (IsMeaningErrorOf c.args.map.now c.args.sequence t))
    (same-texts (kept c.in_ok-texts.texts) (texts_of (pairs_of c.args.query.now)) c.in_ok-texts.ensures)
    (error-meant c.args.map.now c.args.sequence (kept c.in_ok-texts.texts) c.read_texts.result c.read_texts.ensures.value)
