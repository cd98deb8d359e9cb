-- The code's values, as the definitions see them.
use Rattle.std.specs.Prelude.{option_copied, codes}
use Rattle.clap.specs.Words.{first_value}
use Rattle.clap.specs.declared.parser.matches.Found.{Found}
use Rattle.command_words.specs.Words.{Said}
use Rattle.command_words.specs.Tasks.{Task}
use Rattle.command_words.specs.Tasks as task
use Rattle.command_words.specs.declared.parse.Said.{Said as SaidInCode}
use Rattle.command_words.specs.declared.tasks.BlocksTask.{BlocksTask}
use Rattle.command_words.specs.declared.tasks.BlocksTask.TheVariants as blocks
use Rattle.command_words.specs.declared.tasks.Task.{Task as TaskInCode}
use Rattle.command_words.specs.declared.tasks.Task.TheVariants as code

-- what is said, in the code
abbrev pub said_view : SaidInCode → Said
said_view s = record {
  command = option_copied s.command;
  second = option_copied s.second;
  archive = option_copied s.archive;
  name = option_copied s.name;
  cell = option_copied s.cell;
}

-- the task on blocks, in the code
abbrev pub blocks_view : BlocksTask → Task
blocks_view (blocks.Check file) = task.Check file.now
blocks_view (blocks.Place file) = task.Place file.now
blocks_view (blocks.Key file) = task.Key file.now
blocks_view (blocks.Identify file archive) = task.Identify file.now (option_copied archive)
blocks_view (blocks.Components file) = task.Components file.now
blocks_view (blocks.Symmetry file) = task.Symmetry file.now
blocks_view (blocks.Add file archive name) = task.Add file.now (option_copied archive) (option_copied name)
blocks_view (blocks.Duplicates archive) = task.Duplicates archive.now
blocks_view (blocks.Migrate archive) = task.Migrate archive.now
blocks_view (blocks.Same file) = task.Same file.now
blocks_view (blocks.Workload count) = task.Workload count
blocks_view (blocks.Cover file cell) = task.Cover file.now cell

-- the task, in the code
abbrev pub task_view : TaskInCode → Task
task_view (code.OnBlocks on) = blocks_view on
task_view (code.Union file archive) = task.Union file.now archive.now
task_view (code.Verify file) = task.Verify file.now

-- what clap found at each place
abbrev pub said_in : Found → Said
said_in found = record {
  command = first_value found (codes "command");
  second = first_value found (codes "second");
  archive = first_value found (codes "archive");
  name = first_value found (codes "name");
  cell = first_value found (codes "cell");
}
