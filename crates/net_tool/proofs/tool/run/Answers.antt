-- Of `run`: the clauses `broken`, `answer`, `headline`, `complete` and `sure`.
use Rattle.std.proofs.Common.{rules, ◌≡◌, [], Some, Option, subst}
use Rattle.command_words.specs.{Tasks.Task, Tasks.task_of, Views.task_view, Words.texts_of}
use Rattle.net_report.specs.declared.status.Status.TheVariants.{Usage}
use Rattle.net_tool.proofs.Completed.{complete_of, appends_nothing, no_break}
use Rattle.net_tool.{specs.Run.IsDue, proofs.Headlines.headline_of}
use Rattle.net_tool.proofs.tool.run.Goals as goal

pub returns-in_default-found-clause-broken : goal.returns-in_default-found-clause-broken
returns-in_default-found-clause-broken g c = λ fault.
    let part = c.finish.ensures.part fault in
    (Usage, c.as_bytes.result.now, part.0, part.1, search rules, part.2, c.finish.ensures.unsure fault)

pub returns-in-Ok-answer_task-clause-broken : goal.returns-in-Ok-answer_task-clause-broken
returns-in-Ok-answer_task-clause-broken g c = λ fault.
    let asks : Some (task_view c.in-Some.task) ≡ task_of (texts_of c.args.words.now) = search rules in
    let answer = c.in-Ok-answer_task.answer in let part = c.finish-in-Ok-answer_task.ensures.part fault in
    let due = subst (λ (o : Option Task). IsDue o (g.H.Shelf.holds c.args.shelf.now) answer.status c.deref.result.now) asks (search rules) in
    (answer.status, c.deref.result.now, part.0, part.1, due, part.2, c.finish-in-Ok-answer_task.ensures.unsure fault)

pub returns-in-Ok-answer_task-clause-answer : goal.returns-in-Ok-answer_task-clause-answer
returns-in-Ok-answer_task-clause-answer g c = search rules

pub returns-in-Ok-answer_task-clause-headline : goal.returns-in-Ok-answer_task-clause-headline
returns-in-Ok-answer_task-clause-headline g c =
    headline_of (texts_of c.args.words.now) (g.H.Shelf.holds c.args.shelf.now) (g.W.Sink.written c.args.out.now)
    (g.W.Sink.written c.finish-in-Ok-answer_task.new.out)
    c.finish-in-Ok-answer_task.result (returns-in-Ok-answer_task-clause-answer g c)

pub returns-in-Ok-answer_task-clause-complete : goal.returns-in-Ok-answer_task-clause-complete
returns-in-Ok-answer_task-clause-complete g c =
    complete_of (texts_of c.args.words.now) (g.H.Shelf.holds c.args.shelf.now) (g.W.Sink.written c.args.out.now)
    (g.W.Sink.written c.finish-in-Ok-answer_task.new.out)
    c.finish-in-Ok-answer_task.result (returns-in-Ok-answer_task-clause-answer g c)

pub returns-in_default-found-clause-sure : goal.returns-in_default-found-clause-sure
returns-in_default-found-clause-sure g c = λ room fault.
    no_break (texts_of c.args.words.now) (g.H.Shelf.holds c.args.shelf.now) (g.W.Sink.written c.args.out.now) (g.W.Sink.written c.finish.new.out)
    (g.W.Sink.sure c.args.out.now) (returns-in_default-found-clause-broken g c fault) room

pub returns-in-Ok-answer_task-clause-sure : goal.returns-in-Ok-answer_task-clause-sure
returns-in-Ok-answer_task-clause-sure g c = λ room fault.
    no_break (texts_of c.args.words.now) (g.H.Shelf.holds c.args.shelf.now) (g.W.Sink.written c.args.out.now)
    (g.W.Sink.written c.finish-in-Ok-answer_task.new.out)
    (g.W.Sink.sure c.args.out.now) (returns-in-Ok-answer_task-clause-broken g c fault) room

pub returns-in-Err-clause-answer : goal.returns-in-Err-clause-answer
returns-in-Err-clause-answer g c = λ answered.
    let asks : Some (task_view c.in-Some.task) ≡ task_of (texts_of c.args.words.now) = search rules in
    let due = subst (λ (o : Option Task). IsDue o (g.H.Shelf.holds c.args.shelf.now) c.in-Err.status []) asks (c.in-Err.ensures.undue answered) in
    ([], due, appends_nothing (g.W.Sink.written c.args.out.now))
