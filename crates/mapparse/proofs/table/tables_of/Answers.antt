use Rattle.std.proofs.Common.{◌∙◌}
use Rattle.mapparse.proofs.TableList.{one-more, room-more}
use Rattle.mapparse.proofs.table.tables_of.Goals as goal

pub loop-layer-preserved : goal.loop-layer-preserved
loop-layer-preserved c =
    let tables = c.loop-layer.tables in
    record {
      all = rw c.in_ok-push.ensures.ok (one-more c.args.files.now tables c.args.layers.now c.loop-layer.layer-index c.layer-item.result c.in_ok-table_given.field-0 c.loop-layer-test.true c.layer-item.is c.in_ok-table_given.ensures.table ∙ c.loop-layer.invariant.all);
      room = rw c.in_ok-push.ensures.ok (room-more c.args.layers.now tables c.loop-layer.layer-index c.layer-item.result c.in_ok-table_given.field-0 c.loop-layer-test.true c.layer-item.is c.loop-layer.invariant.room c.in_ok-table_given.ensures.room);
    }
