-- A colouring in memory, as the split that it stands for.
use Rattle.periodic_net.specs.Split.{Split as NetSplit}
use Rattle.quotient_graph.specs.declared.split.Split.{Split}

-- the colouring that a Split stands for
abbrev pub split_view : Split → NetSplit
split_view s = record { q = s.q; c = s.c; h = s.h }
