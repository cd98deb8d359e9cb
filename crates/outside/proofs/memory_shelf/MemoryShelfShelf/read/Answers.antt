use Rattle.std.proofs.Common.{rules, inl}
use Rattle.outside.proofs.memory_shelf.MemoryShelfShelf.read.Goals as goal

pub returns-then-contains-clause-fails : goal.returns-then-contains-clause-fails
returns-then-contains-clause-fails c = λ _. inl (search rules)
