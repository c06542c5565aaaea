-- The fault of a mapfile, with the message on it.
use Rattle.std.proofs.Common.{◌≡◌, ◌⊎◌, inl, inr, ap, ◌∙◌, refl, subst, Bool, false, ℕ, List, Option, None, Some, Result, Ok, Err}
use Rattle.std.specs.Option.{IfSome}
use Rattle.maplex.specs.Lexed.{lexed}
use Rattle.mapdefs.specs.declared.map.MapFields.{MapFields}
use Rattle.maptree.specs.declared.tree.MapTree.{MapTree}
use Rattle.maptree.specs.Source.{tree_of}
use Rattle.mapwords.specs.declared.fault.Fault.{Fault}
use Rattle.mapwords.specs.declared.fault.ParseFault.{ParseFault}
use Rattle.mapwords.specs.declared.fault.ParseFault.TheVariants.{At, NoMemory}
use Rattle.mapwords.specs.declared.fault.ParseKind.TheVariants.{MissingFile}
use Rattle.mapwords.specs.Fault.{IsFaultOf}
use Rattle.mapparse.specs.declared.fault.FileCause.{FileCause}
use Rattle.mapparse.specs.declared.fault.FileCause.TheVariants.{Missing, NoFont, NoPixmap, NoTable}
use Rattle.mapparse.specs.declared.files.FileBytes.{FileBytes}
use Rattle.mapparse.specs.Fault.{fault_in, kind_of}
use Rattle.mapparse.specs.Mapping.{map_of, reported_by}
use Rattle.mapparse.specs.Uses.{uses_of}
use Rattle.mapfaults.specs.Missing.{AreOnCause, AreOnFiles, NamesMissing}
use Rattle.subcommands.specs.Explained.{AreFollowed, AreOnFilesOf, IsMapFault, IsPlaceOf, NamesFirst, NamesPlace, with_message}
use Rattle.subcommands.specs.Folder.{ComesTo, FilesOf, Giving}
use Rattle.subcommands.specs.Mapfiles.{HasReadFile, HasReadMapfile}

-- the fault that is reported is that of the first file that has one
reported : (first : Fault) (made : Result MapFields Fault) (fault : Fault) → reported_by (Some first) made ≡ Err fault → first ≡ fault
reported first (Ok map) fault e = absurd (cc e)
reported first (Err other) fault e = cc e

-- the message on a file that can't be read names it
names : (cause : FileCause) (files : List FileBytes) (tree : MapTree) (message : List ℕ) → kind_of cause ≡ MissingFile → AreOnCause cause files tree message →
    NamesMissing files tree message
names Missing files tree message e on = on
names (NoPixmap fault) files tree message e on = absurd (cc e)
names (NoTable fault) files tree message e on = absurd (cc e)
names (NoFont fault) files tree message e on = absurd (cc e)

-- the same of a message that may say where the file was looked for: that file is the one that is named
names-place : (files : List FileBytes) (tree : MapTree) (message : List ℕ) (on : AreFollowed files tree message) →
    NamesMissing files tree on.first → NamesPlace files tree message
names-place files tree message on missing =
    let same : on.place.name ≡ missing.name = cc (on.place.is_first, missing.is_first) in
    record { first = on.first; names = missing; more = on.more; place = subst (λ (n : List ℕ). IsPlaceOf n on.more) same on.place.place; says = on.says }

-- the fault that is reported is of a missing file, where its kind says so
missing : (tree : MapTree) (files : List FileBytes) (fault : Fault) (message : List ℕ) → map_of files tree ≡ Err fault → fault.kind ≡ MissingFile →
    AreOnFiles files tree message → NamesMissing files tree message
missing tree files fault message is e on =
    let same : fault_in on.fault ≡ fault = reported _ _ fault (rw on.is_first at is) in
    names on.fault.cause files tree message (ap (λ (f : Fault). f.kind) same ∙ e) on.on

both : (tree : MapTree) (files : List FileBytes) (fault : Fault) (message : List ℕ) → map_of files tree ≡ Err fault → fault.kind ≡ MissingFile →
    AreOnFilesOf files tree message → NamesMissing files tree message ⊎ NamesPlace files tree message
both tree files fault message is e (inl on) = inl (missing tree files fault message is e on)
both tree files fault message is e (inr on) = inr (names-place files tree message on (missing tree files fault on.first is e on.on))

named : (mapfile : List ℕ) (tree : MapTree) (files : List FileBytes) (fault : Fault) (message : Option (List ℕ)) → tree_of (lexed mapfile) ≡ Ok tree →
    map_of files tree ≡ Err fault → IfSome message (AreOnFilesOf files tree) → fault.kind ≡ MissingFile → IfSome message (NamesFirst files mapfile)
named mapfile tree files fault None read is on e = tt
named mapfile tree files fault (Some message) read is on e = record { tree = tree; is_read = read; names = both tree files fault message is e on }

-- the fault of a file, with the message on it
pub of-files : (gives : Giving) (explains : Bool) (mapfile : List ℕ) (tree : MapTree) (files : List FileBytes) (fault : ParseFault) (message : Option (List ℕ)) →
    tree_of (lexed mapfile) ≡ Ok tree → FilesOf gives (uses_of tree) files → IsFaultOf (map_of files tree) fault →
    (explains ≡ false → message ≡ None) → IfSome message (AreOnFilesOf files tree) → IsMapFault gives explains mapfile (with_message fault message)
of-files gives explains mapfile tree files NoMemory message read are is unasked on = tt
of-files gives explains mapfile tree files (At line kind) message read are is unasked on = record {
  is_fault = record {
    files = files;
    are = λ names e. let same : uses_of tree ≡ names = cc (rw read at e) in rw same at are;
    is = rw read is;
  };
  unasked = unasked;
  named = named mapfile tree files _ message read is on;
}

-- the map of a mapfile with the files of a folder, and these files
pub of-map : (gives : Giving) (mapfile : List ℕ) (tree : MapTree) (files : List FileBytes) (map : MapFields) →
    tree_of (lexed mapfile) ≡ Ok tree → FilesOf gives (uses_of tree) files → map_of files tree ≡ Ok map →
    (comes : ComesTo gives mapfile (Ok map)) × (comes.files ≡ files)
of-map gives mapfile tree files map read are is = (
  record {
    files = files;
    are = λ names e. let same : uses_of tree ≡ names = cc (rw read at e) in rw same at are;
    is = rw read is;
  },
  refl,
)

-- the map was read from these bytes
pub has-mapfile : (gives : Giving) (before after : Option (List ℕ)) (source bytes : List ℕ) (files : List FileBytes) (map : MapFields) →
    HasReadFile before after bytes → source ≡ bytes → ((comes : ComesTo gives source (Ok map)) × (comes.files ≡ files)) → HasReadMapfile gives before after bytes files map
has-mapfile gives before after source bytes files map read same has =
    let moved = subst (λ (s : List ℕ). (comes : ComesTo gives s (Ok map)) × (comes.files ≡ files)) same has in
    record { read = read; is_map = moved.0; uses = moved.1 }
