use Rattle.std.proofs.Common.{◌≡◌, ◌++◌, drop}
use Rattle.std.specs.List.{list_all}
use Rattle.std.specs.Str.{is_utf8}
use Rattle.csv.specs.Records.{fields_of}
use Rattle.csvpoints.proofs.row.add_texts.Given as goal

-- what was added, and the fields that are left, are all of them
abbrev pub invariant-loop-field : goal.invariant-loop-field
invariant-loop-field l = record {
  row : l.field-iterator.row.now ≡ l.fn.row;
  texts : l.texts ++ drop l.field-iterator.at (fields_of l.fn.row) ≡ l.fn.texts ++ fields_of l.fn.row;
  utf8 : list_all is_utf8 (drop l.field-iterator.at (fields_of l.fn.row)) ≡ list_all is_utf8 (fields_of l.fn.row);
}
