use Rattle.std.proofs.Common.{◌∙◌}
use Rattle.command_words.specs.Views.{task_view}
use Rattle.answers.specs.Bytes.{bytes_in}
use Rattle.net_tool.proofs.OneAnswer.{due_over}
use Rattle.net_tool.proofs.tool.answer_task.Goals as goal

pub returns-clause-due : goal.returns-clause-due
returns-clause-due g c =
    let read = c.in_ok-file.ensures.read in
    due_over (task_view c.args.task.now) (g.H.Shelf.holds c.args.shelf.now) c.deref.result.now read.file (bytes_in c.in_ok-file.field-0.archive)
    (c.deref.ensures.value ∙ read.file_is) read.read read.archive c.in_ok-answer_to.field-0.status c.in_ok-answer_to.field-0.text.items
    c.in_ok-answer_to.ensures.told c.in_ok-answer_to.ensures.due
