use Rattle.std.proofs.Common.{◌≡◌, ◌≤◌, subst, sym, ◌∙◌, arith}
use Rattle.periodic_net.specs.Limits.{most_vertices}
use Rattle.coordination.{specs.Sequences.AreFirstSequences, proofs.ClassShells.one_more, proofs.ClassShells.all_classes}
use Rattle.coordination.proofs.all_classes.class_sequences.Goals as goal

pub loop-before-preserved : goal.loop-before-preserved
loop-before-preserved g c =
    one_more c.args.classes.now.classes c.loop-before.before c.loop-before.lists c.push.new.self c.in_ok-sizes.sizes.items c.loop-before.invariant
    c.in_ok-sizes.ensures c.in_ok-push.ensures.ok

pub returns : goal.returns
returns g c =
    let K = c.args.classes.now.classes in let test = c.loop-before-test.false in
    let end : c.loop-before.before ≡ c.count-count.result = omega arith in
    let count = end ∙ c.count-count.ensures.count ∙ (λ i. (c.net.ensures.net i).count) in
    record {
      sequences = all_classes c.args.classes.now c.net.ensures.is_graph c.net.ensures.classes c.loop-before.lists
          (subst (λ n. AreFirstSequences K n c.loop-before.lists) count c.loop-before.invariant);
      few = subst (λ n. n ≤ most_vertices) (sym (c.loop-before.invariant.count ∙ end)) c.count-count.ensures.few;
    }
