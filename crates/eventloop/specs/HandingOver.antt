-- What the accepting thread tells a worker (docs/WMS.md, "HTTP").
use Rattle.eventloop.specs.declared.handed_over.Ending.{Ending}
use Rattle.eventloop.specs.declared.handed_over.Ending.TheVariants.{GoesOn, Finishes, Stops}

-- how a worker ends that was to end in one way and is told another: one that stops never goes back
abbrev pub after_ending : Ending → Ending → Ending
after_ending GoesOn told = told
after_ending Finishes told = told
after_ending Stops told = Stops
