-- From a device as it was opened to the device that was handed in.
use Rattle.std.proofs.Common.{◌≡◌, ℕ, ◌+◌, List, Option, Some, None, ◌∙◌}
use Rattle.std.specs.Prelude.{All, reverse}
use Rattle.bc_model.specs.Sector.{Image}
use Rattle.bc_disk.specs.Disk.{DiskFacts, IfTold, BothTold}
use Rattle.bc_model.specs.History.{IsLegal}
use Rattle.bc_model.specs.declared.history.Entry.{Entry}
use Rattle.bc_model.proofs.Orders.{legal_agrees}
use Rattle.bc_script.specs.declared.line.Line.{Line}
use Rattle.bc_script.specs.declared.answer.Answer.{Answer}
use Rattle.bc_script.specs.Served.{Served}
use Rattle.bc_script.specs.Expected.{AllAnswered, answers_of}
use Rattle.bc_script.specs.Proper.{IsLine}
use Rattle.bc_script.proofs.Marks.{of_first, one_by_one}
use Rattle.bc_script.proofs.Outcomes.{outcome_from, answers_same}
use Rattle.bc_super.specs.Reading.{ReadsSuper}
use Rattle.bc_super.specs.declared.backing.BackingSuper.{BackingSuper}
use Rattle.bc_session_laws.specs.bc_plain_laws.Promises.{Survives}
use Rattle.bc_top.specs.Opened.{SameImage}

-- what holds of the image that it held then, from where its superblock says that the data begins
pub told_before : (d : DiskFacts) (old new : Option Image) (s : BackingSuper) (P : BackingSuper → Image → Type 0)
    → BothTold SameImage old new → ReadsSuper d s → IfTold new (P s)
    → IfTold old (λ held. (s : BackingSuper) × ReadsSuper d s × ((image : Image) × SameImage held image × P s image))
told_before d None None s P both reads h = tt
told_before d None (Some image) s P both reads h = absurd both
told_before d (Some held) None s P both reads h = absurd both
told_before d (Some held) (Some image) s P both reads h = (s, reads, (image, both, h))

-- what the lines are answered by what the device held
pub expected : (old new : Option Image) (offset size : ℕ) (lines : List Line) (answers : List Answer) (history : List Entry) → BothTold SameImage old new → IfTold new (λ image. IsLegal (λ s. image (offset + s)) (reverse history))
    → All IsLine lines → Served size lines answers history → AllAnswered size lines answers → IfTold old (λ held. answers ≡ answers_of size lines (λ s. held (offset + s)))
expected None None offset size lines answers history both legal are served all = tt
expected None (Some image) offset size lines answers history both legal are served all = absurd both
expected (Some held) None offset size lines answers history both legal are served all = absurd both
expected (Some held) (Some image) offset size lines answers history both legal are served all =
    outcome_from size 1 lines answers history (λ s. image (offset + s)) (one_by_one size 1 lines answers history (of_first lines are) served) ((legal_agrees (λ s. image (offset + s)) history).1 legal) all
    ∙ answers_same size lines (λ s. image (offset + s)) (λ s. held (offset + s)) (λ s. both (offset + s))

pub legal_of : (o : Option Image) (offset : ℕ) (entries : List Entry) (after : DiskFacts)
    → IfTold o (λ image. Survives offset image entries after)
    → IfTold o (λ image. IsLegal (λ s. image (offset + s)) (reverse entries))
legal_of None offset entries after h = tt
legal_of (Some image) offset entries after h = h.0
