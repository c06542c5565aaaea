-- A reader of a map may be sent to another thread.
use Rattle.history.proofs.prefix.Prefix.TheSendSync as PrefixCrosses
use Rattle.history.specs.declared.rule.Naming as Naming
use Rattle.left_right.proofs.reader.Reader.TheSendSync as EndCrosses
use Rattle.left_right.specs.contracts.reader.Reader as End
use Rattle.mapshare.proofs.Crossing.{fielded, machine-send, machine-sync}
use Rattle.mapshare.specs.contracts.replica.Replica as Replica
use Rattle.mapshare.specs.contracts.reader.Reader as Reader
use Rattle.mapshare.specs.contracts.rule.Ruled as Ruled
use Rattle.mapshare.specs.contracts.rule.RuledProtocolReplicaView.TheImpl as Rule
use Rattle.mapshare.specs.contracts.rule.View as View
use Rattle.mapshare.specs.declared.rule.Sharing as Sharing
use Rattle.std.below.std_heap.proofs.GlobalAllocator.TheSendSync as HeapFrees
use Rattle.std.proofs.alloc.Global.TheSendSync as HeapCrosses
use Rattle.std.specs.contracts.alloc.Global as Heap
use Rattle.std.specs.contracts.impls.GlobalAllocator.TheImpl as HeapAllocator
use denote.Param.Send.{IsSend, IsSync}
use denote.RattleType.{RattleType}

module _ (R : RattleType) (g : Naming.Ghosts R.Denot) where
  pub replica-send : IsSend (Replica.the_row R g)
  replica-send = search (machine-send, PrefixCrosses.the_send, fielded) depth 60 fits 20000

  pub replica-sync : IsSync (Replica.the_row R g)
  replica-sync = search (machine-sync, PrefixCrosses.the_sync, fielded) depth 60 fits 20000

module _ (R : RattleType) (g : Sharing.Ghosts R.Denot) (g' : Naming.Ghosts R.Denot) where
  pub end-send : IsSend (End.the_row (Replica.the_row R g') View.the_row (Ruled.the_row R) Heap.the_row (Rule.ghosts R g Rule.no_dict g' Rule.no_dict) HeapAllocator.ghosts)
  end-send = EndCrosses.the_send (Replica.the_row R g') View.the_row (Ruled.the_row R) Heap.the_row (Rule.ghosts R g Rule.no_dict g' Rule.no_dict) HeapAllocator.ghosts HeapCrosses.the_send (replica-sync R g') HeapCrosses.the_sync HeapFrees.the_frees

  pub reader-send : IsSend (Reader.the_row R g g')
  reader-send = search (end-send, PrefixCrosses.the_send, fielded) depth 60 fits 20000
