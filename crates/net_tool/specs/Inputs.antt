-- The bytes of the files that a task names, in the code.
use Rattle.std.specs.Prelude.{◌≡◌, Option, List, [], ℕ, unwrap_or}
use Rattle.outside.specs.Held.{Holds}
use Rattle.command_words.specs.Tasks.{Task, archive_named, file_named}
use Rattle.answers.specs.Bytes.{bytes_in}
use Rattle.net_tool.specs.Run.{AreBytesOf}
use Rattle.net_tool.specs.declared.tool.Inputs.{Inputs as InputsInCode}

-- these are the bytes of the file and of the archive that the task names; without a file there are none
pub record AreInputs (task : Task) (holds : Holds) (inputs : InputsInCode) : Type 0 where
  pub file : Option (List ℕ)
  pub read : AreBytesOf (file_named task) holds file
  pub file_is : inputs.file.items ≡ unwrap_or file []
  pub archive : AreBytesOf (archive_named task) holds (bytes_in inputs.archive)
