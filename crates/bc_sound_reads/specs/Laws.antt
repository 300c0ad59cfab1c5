-- What lines over a sound pair are never answered.
use Rattle.std.specs.Prelude.{◌≡◌, ℕ, All, Bool, List, IfErr}
use Rattle.std.specs.List.{AllByRecursion}
use Rattle.bc_book.specs.Pass.{events_in}
use Rattle.bc_cached_serve.specs.bc_cached.Laws.{parts_in}
use Rattle.bc_cached_serve.specs.Run.{HasRunOver}
use Rattle.bc_cached_serve.specs.declared.whole_run.Outcome.{Outcome}
use Rattle.bc_disk.specs.Disk.{DiskFacts}
use Rattle.bc_facts.specs.Layout.{IsLayoutOf}
use Rattle.bc_cached_serve.specs.bc_hand.Seats.{core, world}
use Rattle.bc_image.specs.Reading as pairs
use Rattle.bc_cached_serve.specs.bc_loaded.declared.loading.Loaded.{Loaded}
use Rattle.bc_cached_serve.specs.bc_machine.World.{Origin}
use Rattle.bc_meta.specs.Layout.{Layout}
use Rattle.bc_model.specs.Sector.{Image}
use Rattle.bc_pair.specs.Found.{pair_of}
use Rattle.bc_parts.specs.Machine.{state_after}
use Rattle.bc_replay.specs.declared.held.Survey.{Survey}
use Rattle.bc_cached_serve.specs.bc_request.declared.error.RequestError.TheVariants as request
use Rattle.bc_script.specs.Proper.{IsLine}
use Rattle.bc_script.specs.declared.answer.Answer.{Answer}
use Rattle.bc_script.specs.declared.answer.Answer.TheVariants as answer
use Rattle.bc_script.specs.declared.answer.Refusal.TheVariants as refusal
use Rattle.bc_script.specs.declared.line.Line.{Line}
use Rattle.bc_cached_serve.specs.bc_session.Laws.{HoldSound}
use Rattle.bc_cached_serve.specs.bc_session.Open.{ready_of}
use Rattle.bc_cached_serve.specs.bc_started.Laws.{AreUntorn, IsStartedFrom}
use Rattle.bc_super.specs.declared.backing.BackingSuper.{BackingSuper}

-- it says that a node is damaged
abbrev pub NamesNode : Answer → Type 0
NamesNode (answer.Refused (refusal.Node bucket why)) = Unit {0}
NamesNode a = ⊥

-- No line was answered so; and where the run stopped at a line, a part of the leaves was busy.
pub record FindsItSound {C B : Type 0} (r : Outcome C B) : Type 0 where
  pub nodes : AllByRecursion (λ a. NamesNode a → ⊥) r.answers.items
  pub stops : IfErr r.served (λ stop. stop.why ≡ request.Busy)

-- So it is over a sound pair, of which no torn record was read as a whole one by chance, from each
-- opening from which the run is seen.
abbrev pub LawNotRefused : {C B : Type 0} → (C → DiskFacts) → (B → DiskFacts) → Type 0
LawNotRefused {C} {B} cache_facts facts = (s : Survey) (b : BackingSuper) (dirty : Bool) (cache : C)
    (backing : B) (c d : Image) (v : pairs.View) (layout : Layout) (loaded : Loaded)
    (lines : List Line) (r : Outcome C B) → All IsLine lines
    → HoldSound cache_facts facts s b cache backing c d v → IsLayoutOf v.geometry layout
    → (h : HasRunOver cache_facts facts s b dirty cache backing loaded lines r) → (next_seq : ℕ)
    (o : Origin) → IsStartedFrom (pair_of (cache_facts cache) (facts backing) c d) v layout
    (parts_in (ready_of loaded cache h.over.part) h.over.is_loaded.are.leaves.pending) next_seq
    (world cache_facts facts h.seat) o
    → AreUntorn o (state_after (core cache_facts facts) h.parts.run.start
    (events_in r.closed.pass)).log
    → FindsItSound r
