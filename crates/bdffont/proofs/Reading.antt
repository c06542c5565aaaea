-- What is read of lines, a line at a time.
use Rattle.std.proofs.Common.{◌≡◌, ℕ, ◌+◌, List, [], ◌∷◌, Result, Ok, Err, refl, sym, ◌∙◌, ap}
use Rattle.mapdefs.specs.declared.font.FontFields.{FontFields}
use Rattle.bdffont.specs.declared.fault.FontFault.{FontFault}
use Rattle.bdffont.specs.declared.fault.FontKind.{FontKind}
use Rattle.bdffont.specs.declared.section.ReaderState.{ReaderState}
use Rattle.bdffont.specs.declared.step.LineError.{LineError}
use Rattle.bdffont.specs.declared.step.LineError.TheVariants.{Fault, NoMemory}
use Rattle.bdffont.specs.Sections.{says, IsStop}
use Rattle.bdffont.specs.File.{reads, after_line, at_end, fault_on, error_on, IsErrorOf}

-- what is read of a line and of those after it
reads-line : (s : ReaderState) (line : ℕ) (text : List ℕ) (texts : List (List ℕ)) → reads s line (text ∷ texts) ≡ after_line line (says s text) (λ next. reads next (line + 1) texts)
unfolding reads
reads-line s line text texts = refl

-- one more line is read
pub reads-next : (s next : ReaderState) (line : ℕ) (text : List ℕ) (texts lines : List (List ℕ)) → lines ≡ text ∷ texts → says s text ≡ Ok next → reads s line lines ≡ reads next (line + 1) texts
reads-next s next line text texts lines e h = ap (reads s line) e ∙ reads-line s line text texts ∙ ap (λ said. after_line line said (λ t. reads t (line + 1) texts)) h

-- a line with a fault
reads-fault : (s : ReaderState) (kind : FontKind) (line : ℕ) (text : List ℕ) (texts lines : List (List ℕ)) → lines ≡ text ∷ texts → says s text ≡ Err kind → reads s line lines ≡ Err (fault_on line kind)
reads-fault s kind line text texts lines e h = ap (reads s line) e ∙ reads-line s line text texts ∙ ap (λ said. after_line line said (λ t. reads t (line + 1) texts)) h

-- a line where reading stops
pub reads-stop : (s : ReaderState) (stop : LineError) (line : ℕ) (text : List ℕ) (texts lines : List (List ℕ)) (file : Result FontFields FontFault) →
    reads s line lines ≡ file → lines ≡ text ∷ texts → IsStop stop (says s text) → IsErrorOf file (error_on line stop)
reads-stop s (Fault kind) line text texts lines file r e h = sym r ∙ reads-fault s kind line text texts lines e h
reads-stop s NoMemory line text texts lines file r e h = tt

-- no line is left
pub reads-end : (s : ReaderState) (line : ℕ) (lines : List (List ℕ)) → lines ≡ [] → reads s line lines ≡ at_end line s.section
unfolding reads
reads-end s line lines e = rw e refl
