use Rattle.std.proofs.Common.{rules, inl}
use Rattle.outside.proofs.memory_sink.MemorySinkSink.write.Goals as goal

pub returns-then-contains-clause-fails : goal.returns-then-contains-clause-fails
returns-then-contains-clause-fails c = inl (search rules)
