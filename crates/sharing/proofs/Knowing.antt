-- One reader across one event.
use Rattle.std.proofs.Common.{◌≡◌, Bool, true, false, if◌then◌else◌, List, [], ◌∷◌, ◌++◌, length, All, Option, None, Some, IfSome, refl}
use Rattle.std.specs.Prelude.{nat_lt}
use Rattle.std.proofs.lemmas.List.Elements.{All-nil, All-cons}
use mathlib.Core.List.{IsPrefix}
use Rattle.sharing.specs.Sharing.{Reader, longer}
use Rattle.sharing.specs.Event.{learn, enter, leave, shown, learned}
use Rattle.sharing.proofs.Prefixes.{prefix_self, prefix_more, longer_both, either_has}

-- the batches that a reader knows begin the published ones, and its entry shows just those
pub record Fits {B : Type 0} (published : List B) (r : Reader B) : Type 0 where
  pub known : IsPrefix r.known published
  pub same : IfSome r.entered (λ list. list ≡ r.known)

pub fits_more : {B : Type 0} (published more : List B) (r : Reader B) → Fits published r → Fits (published ++ more) r
fits_more published more r f = record { known = prefix_more r.known published more f.known; same = f.same }

-- a reader before and after an event, and the lists that it is shown or learns of by the event
pub record Goes {B : Type 0} (published : List B) (old new : Reader B) (lists : List (List B)) : Type 0 where
  pub fits : Fits published new
  pub grows : IsPrefix old.known new.known
  pub begins : All (λ list. IsPrefix list new.known) lists

pub stays : {B : Type 0} (published : List B) (r : Reader B) → Fits published r → Goes published r r []
stays published r f = record { fits = f; grows = prefix_self r.known; begins = All-nil (λ list. IsPrefix list r.known) }

-- one list that begins the reader's known batches
one_begins : {B : Type 0} (list known : List B) → IsPrefix list known → All (λ l. IsPrefix l known) (list ∷ [])
one_begins list known p = All-cons (λ l. IsPrefix l known) list [] p (All-nil (λ l. IsPrefix l known))

pub learns : {B : Type 0} (published : List B) (r : Reader B) (entry receipt : Option (List B)) → Fits published r → IfSome receipt (λ list. IsPrefix list published)
    → Goes published r (learn entry receipt r) (learned entry receipt)
learns published r None None f p = stays published r f
learns published r (Some entry) receipt f p = stays published r f
learns published r None (Some receipt) f p =
    let both = longer_both r.known receipt published f.known p in
    record {
      fits = record { known = either_has (λ l. IsPrefix l published) (nat_lt (length r.known) (length receipt)) receipt r.known p f.known; same = tt };
      grows = both.0;
      begins = one_begins receipt (longer r.known receipt) both.1;
    }

pub enters : {B : Type 0} (published : List B) (r : Reader B) (entry : Option (List B)) → Fits published r → Goes published r (enter published entry r) (shown published entry)
enters published r (Some entry) f = stays published r f
enters published r None f = record {
  fits = record { known = prefix_self published; same = refl };
  grows = f.known;
  begins = one_begins published published (prefix_self published);
}

pub leaves : {B : Type 0} (published : List B) (r : Reader B) → Fits published r → Goes published r (leave r) []
leaves published r f = record { fits = record { known = f.known; same = tt }; grows = prefix_self r.known; begins = All-nil (λ list. IsPrefix list r.known) }

-- only the reader that the event names is changed, and gets the lists of the event
pub one_goes : {B : Type 0} (published : List B) (old new : Reader B) (lists : List (List B)) (b : Bool) → Fits published old → Goes published old new lists
    → Goes published old (if b then new else old) (if b then lists else [])
one_goes published old new lists true f g = g
one_goes published old new lists false f g = stays published old f

-- the same for a reader that gets no list
pub one_leaves : {B : Type 0} (published : List B) (old new : Reader B) (b : Bool) → Fits published old → Goes published old new []
    → Goes published old (if b then new else old) []
one_leaves published old new true f g = g
one_leaves published old new false f g = stays published old f
