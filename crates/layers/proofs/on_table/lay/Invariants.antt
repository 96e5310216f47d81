use Rattle.std.proofs.Common.{◌≡◌, ◌+◌, drop}
use Rattle.rules.specs.Tables.{told}
use Rattle.layers.specs.Layers.{piling, reached}
use Rattle.layers.proofs.on_table.lay.Given as goal

-- the layers that are left, on the table now, give what the whole list gives on the table as it was
abbrev pub invariant-loop-index : goal.invariant-loop-index
invariant-loop-index l = record {
  reply : piling (drop l.index l.layers) (l.index + 1) (told l.table) ≡ piling l.layers 1 (told l.fn.table);
  table : reached (drop l.index l.layers) (told l.table) ≡ reached l.layers (told l.fn.table);
}
