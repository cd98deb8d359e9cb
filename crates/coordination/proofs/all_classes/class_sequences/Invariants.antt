use Rattle.coordination.specs.Sequences.{AreFirstSequences}
use Rattle.coordination.proofs.all_classes.class_sequences.Given as goal

abbrev pub invariant-loop-before : goal.invariant-loop-before
invariant-loop-before g l = AreFirstSequences l.classes.classes l.before l.lists
