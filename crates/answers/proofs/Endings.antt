-- How a task ends to which an answer is due, and that no status without a text is due.
use Rattle.std.proofs.Common.{◌≡◌, ◌≢◌, inl, inr, ℕ, ◌<◌, ◌≤◌, Bool, true, false, List, [], length, Option, Some, unwrap_or, refl, arith}
use Rattle.cgd_read.specs.{Blocks.blocks_of, Blocks.most_blocks, Views.BlockView}
use Rattle.command_words.specs.Tasks.{Task, Union, Verify}
use Rattle.net_archive.specs.Archives.{ArchiveView}
use Rattle.archive_answers.specs.Unions.{IsUnionAs, begins_archive, IsUnionDue}
use Rattle.archive_answers.{specs.ArchiveBytes.IsBadArchive, proofs.CallerLemmas.not_bad}
use Rattle.answers.specs.Due.{HasTooMany, IsDueFor, IsDueToBlocks, IsDueWith}
use Rattle.answers.specs.Endings.{IsComplete, IsOfUniting, GoesWithText}
use Rattle.answers.specs.{Bytes.HasFewBlocks, Laws.FewEndings, Laws.UnionEndings}
use Rattle.map_answers.specs.DueToVerify.{IsDueToVerify}
use Rattle.net_report.specs.declared.status.{Status.Status, Status.TheVariants.BadArchive}

-- what is due to a task of blocks ends it so
ends_so : (task : Task) (blocks : List BlockView) (a : ArchiveView) (status : Status) (text : List ℕ) → IsDueFor task blocks a status text
    → IsComplete (Some task) status
ends_so task blocks a status text h = grind arith

of_blocks : (task : Task) (bytes : List ℕ) (archive : Option (List ℕ)) (status : Status) (text : List ℕ) → status ≢ BadArchive
    → IsDueToBlocks task bytes archive status text → IsComplete (Some task) status
of_blocks task bytes archive status text h k = search (arith, ends_so)

-- what is due to a union ends it so
of_union : (begins : Bool) (file_name archive_name : List ℕ) (bytes : List ℕ) (archive : Option (List ℕ)) (status : Status) (text : List ℕ)
    → IsUnionAs begins bytes archive status text → IsComplete (Some (Union file_name archive_name)) status
of_union begins file_name archive_name bytes archive status text h = search arith

-- what is due to a check of maps ends it so
of_verify : (name : List ℕ) (bytes : List ℕ) (status : Status) (text : List ℕ) → IsDueToVerify bytes status text → IsComplete (Some (Verify name)) status
of_verify name bytes status text h = search arith

-- what is due to a task ends it so, if the archive is read
ends_with : (task : Task) (bytes : List ℕ) (archive : Option (List ℕ)) (status : Status) (text : List ℕ) → status ≢ BadArchive
    → IsDueWith task bytes archive status text → IsComplete (Some task) status
ends_with (Verify file) bytes given status text good due = of_verify file bytes status text due
ends_with (Union file archive) bytes given status text good due = of_union (begins_archive bytes) file archive bytes given status text due
ends_with task bytes given status text good due = of_blocks task bytes given status text good due

-- if the archive is good, it is the file of a union that is bad
bad_ends : (task : Task) (bytes : List ℕ) (archive : Option (List ℕ)) (text : List ℕ) → ¬ IsBadArchive archive text
    → IsDueWith task bytes archive BadArchive text → IsOfUniting (Some task)
bad_ends task bytes archive text h k = search arith

-- if there are few blocks, there are too many items of a union
few_and_many : (bytes : List ℕ) → most_blocks < length (blocks_of bytes) → ¬ (length (blocks_of bytes) ≤ most_blocks)
few_and_many bytes many few = absurd (omega (arith, many, few))

many_ends : (task : Task) (bytes : List ℕ) → HasFewBlocks task bytes → HasTooMany task bytes → IsOfUniting (Some task)
many_ends task bytes h k = grind (arith, few_and_many)

-- within the limits, and beside an archive, a task ends so
pub few_endings : FewEndings
few_endings h k l p q r s = grind (arith, bad_ends, not_bad, many_ends, ends_with)

-- beside an archive it is the file of a union that is bad
bad_file : (begins : Bool) (bytes : List ℕ) (archive : Option (List ℕ)) (text : List ℕ) → begins_archive bytes ≡ begins → ¬ IsBadArchive archive text
    → IsUnionAs begins bytes archive BadArchive text → (begins_archive bytes ≡ true) × IsBadArchive (Some bytes) text
bad_file true bytes archive text begins good (inl bad) = (begins, bad)
bad_file true bytes archive text begins good (inr (b, read, bad)) = absurd (good bad)
bad_file false bytes archive text begins good due = absurd (good due.1)

-- so a union ends as its file says
pub union_endings : UnionEndings
union_endings = record {
  bad = λ name archive_name file archive text within due. bad_file (begins_archive (unwrap_or file [])) (unwrap_or file []) archive text refl
      (not_bad archive within.entries text within.is_archive) due;
  many = λ name archive_name file archive text due. due.0;
}

-- A status without a text is due to no task.

-- to blocks
text_so : (task : Task) (blocks : List BlockView) (a : ArchiveView) (status : Status) (text : List ℕ) → IsDueFor task blocks a status text → GoesWithText status
text_so task blocks a status text h = grind arith

-- to the blocks of bytes
pub text_of_blocks : (task : Task) (bytes : List ℕ) (archive : Option (List ℕ)) (status : Status) (text : List ℕ)
    → IsDueToBlocks task bytes archive status text → GoesWithText status
text_of_blocks task bytes archive status text h = search (arith, text_so)

text_of_either : (begins : Bool) (bytes : List ℕ) (archive : Option (List ℕ)) (status : Status) (text : List ℕ) → IsUnionAs begins bytes archive status text
    → GoesWithText status
text_of_either begins bytes archive status text h = search arith

-- to a union
pub text_of_union : (bytes : List ℕ) (archive : Option (List ℕ)) (status : Status) (text : List ℕ) → IsUnionDue bytes archive status text → GoesWithText status
text_of_union bytes archive status text due = text_of_either (begins_archive bytes) bytes archive status text due

-- to a check of maps
pub text_of_verify : (bytes : List ℕ) (status : Status) (text : List ℕ) → IsDueToVerify bytes status text → GoesWithText status
text_of_verify bytes status text h = search arith
