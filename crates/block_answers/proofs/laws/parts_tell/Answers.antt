-- Of `parts_tell`: the answers to the graphs of parts tell by their keys.
use Rattle.std.proofs.Common.{List, [], ◌∷◌, map, Result}
use Rattle.integers.specs.Lists.{AreMatched}
use Rattle.quotient_graph.specs.declared.any_graph.AnyGraph.{AnyGraph}
use Rattle.least_key.specs.{Answers.AreAnswers, declared.net.Net.Net, declared.refusal.Refusal.Refusal}
use Rattle.least_key.proofs.CallerLemmas.{keys_tell, keys_tell_bare}
use Rattle.net_components.specs.declared.parts.Part.{Part}
use Rattle.block_answers.specs.ComponentLines.{IsAnswerOf}
use Rattle.block_answers.proofs.laws.parts_tell.Goals as goal

abbrev graphs_of : List Part → List AnyGraph
graphs_of ps = map (λ (p : Part). p.graph) ps

answers_of : (ps : List Part) (answers : List (Result Net Refusal)) → AreMatched IsAnswerOf ps answers → AreAnswers (graphs_of ps) answers
answers_of [] [] h = tt
answers_of (p ∷ ps) (answer ∷ answers) h = (h.0, answers_of ps answers h.1)
answers_of ps answers h = absurd h

pub returns : goal.returns
returns c = record {
  theorem = record {
    isomorphic = λ ps answers h. keys_tell (graphs_of ps) answers (answers_of ps answers h);
    bare = λ ps answers h. keys_tell_bare (graphs_of ps) answers (answers_of ps answers h);
  };
}
