-- What a run over a pair that was opened stands ready for.
use Rattle.std.proofs.Common.{◌≡◌, ℕ, ◌+◌, ◌<◌, ◌^◌, List, [], length, refl, sym, ap, ◌∙◌, subst, arith}
use Rattle.std.specs.Prelude.{Bool, OnOk, ◌++◌, false, map}
use Rattle.std.proofs.lemmas.List.{length-map}
use Rattle.bc_book.specs.Pass.{events_in}
use Rattle.bc_cache.specs.Slots.{NodeCache}
use Rattle.bc_serve.specs.bc_deed.Asked.{size_of}
use Rattle.bc_disk.specs.Disk.{DiskFacts, StandsFor}
use Rattle.bc_disk.specs.Stands.{settled_model}
use Rattle.bc_events.specs.Columns.{entries_of}
use Rattle.bc_serve.proofs.of_bc_hand.Knowing.{View}
use Rattle.bc_session.specs.bc_loaded.declared.loading.Loaded.{Loaded}
use Rattle.bc_serve.specs.bc_hand.Seats.{world}
use Rattle.bc_serve.specs.bc_machine.World.{FromEach, are_plain}
use Rattle.bc_serve.specs.bc_machine.declared.part.BackingPart.{BackingPart}
use Rattle.bc_serve.specs.bc_machine.declared.part.CorePart.{CorePart}
use Rattle.bc_serve.specs.bc_machine.declared.part.CorePart.TheVariants as part
use Rattle.bc_model.specs.declared.history.Entry.{Entry}
use Rattle.bc_parts.specs.Seat.{PartsView, Run}
use Rattle.bc_replay.specs.declared.held.Survey.{Survey}
use Rattle.bc_script.specs.Served.{Served}
use Rattle.bc_script.specs.declared.line.Line.{Line}
use Rattle.bc_serve.proofs.Lists.{entries_map}
use Rattle.bc_serve.specs.Causes.{entries_by}
use Rattle.bc_session.specs.Open.{HasStayed, IsRunOver}
use Rattle.bc_session.proofs.Ready.{stands_still}
use Rattle.bc_session.proofs.Stopped.{settled_self}
use Rattle.bc_super.specs.Super.{data_sectors}
use Rattle.bc_super.specs.declared.backing.BackingSuper.{BackingSuper}
use Rattle.bc_cached_serve.proofs.Durable.{started_durable}
use Rattle.bc_cached_serve.specs.Run.{HasRunOn, HasRunOver, IsAlone}
use Rattle.bc_cached_serve.specs.Worker.{AreAllDurable}
use Rattle.bc_cached_serve.specs.declared.whole_run.Outcome.{Outcome}

pub has_stayed : (d : DiskFacts) → StandsFor d (settled_model d) → HasStayed d d
has_stayed d still = record { settled = settled_self d (stands_still d still); faults = refl }

module _ {C B : Type 0} (cache_facts : C → DiskFacts) (backing_facts : B → DiskFacts)
    (s : Survey) (b : BackingSuper) (cache : C) (backing : B) (loaded : Loaded)
    (parts : PartsView (CorePart C B)) (seat : View cache_facts backing_facts)
    (over : IsRunOver cache_facts backing_facts s b cache backing loaded parts seat) where
  pub is_alone : IsAlone cache_facts backing_facts seat
  is_alone = record {
    all = over.started.all;
    deeds = over.started.deeds;
    seen = over.started.seen;
  }

  pub is_cached : are_plain cache_facts backing_facts parts.run.start ≡ false
  is_cached = ap (λ (ps : List (CorePart C B)). are_plain cache_facts backing_facts ps)
      over.started.start

  how_many : length parts.run.start ≡ 6 + over.is_loaded.count
  how_many =
      let k = over.started.beginning in
      let made : length k.leaves ≡ over.is_loaded.count =
      ap (λ (xs : List NodeCache). length xs) over.started.made.leaves
      ∙ over.is_loaded.are.leaves.are.each in
      let put : NodeCache → CorePart C B = λ x. part.Leaves x in
      let all : length (map put k.leaves) ≡ length k.leaves = length-map k.leaves put in
      ap (λ (ps : List (CorePart C B)). length ps) over.started.start
      ∙ omega (arith, made, all)

  pub has_leaves : (6 < length parts.run.start) × (length parts.run.start < 2 ^ 32)
  has_leaves =
      let count = how_many in let some = over.is_loaded.some in let few = over.is_loaded.few in
      (omega (arith, count, some), omega (arith, count, few))

  -- how many sectors the data are
  pub size_is : data_sectors (backing_facts backing).sectors b
      ≡ size_of cache_facts backing_facts seat.run.start
  size_is = sym (ap (λ (r : Run (CorePart C B)). size_of cache_facts backing_facts r.start)
      over.started.works.run
      ∙ ap (λ (ps : List (CorePart C B)). size_of cache_facts backing_facts ps) over.started.start
      ∙ ap (λ (p : BackingPart B). p.size) over.started.made.backing ∙ over.is_part.size
      ∙ ap (λ n. data_sectors n b) over.state.2.sectors)

  -- all that came into the index is durable: its entry took all keys
  pub is_durable : FromEach (world cache_facts backing_facts seat) AreAllDurable
  is_durable = started_durable cache_facts backing_facts seat over.started.unsealed
      over.started.next.sealed over.started.deeds over.started.put over.started.seen

  -- what it did so far put nothing into the history
  pub none_put : entries_of seat.seen ≡ []
  none_put = ap entries_of over.started.seen ∙ entries_map 0 over.started.deeds
      ∙ ap entries_by over.started.put.is

  -- ---- the run to its end

  pub has_run_over : (dirty : Bool) (size : ℕ) (lines : List Line) (r : Outcome C B)
      → size ≡ data_sectors (backing_facts backing).sectors b
      → HasRunOn cache_facts backing_facts parts b dirty size lines seat r
      → HasRunOver cache_facts backing_facts s b dirty cache backing loaded lines r
  has_run_over dirty size lines r is on =
      let all = data_sectors (backing_facts backing).sectors b in
      let here = subst (λ n. HasRunOn cache_facts backing_facts parts b dirty n lines seat r) is
      on in
      let entries : entries_of (events_in r.closed.pass) ≡ entries_by here.lines_by.deeds =
      here.entries ∙ ap (λ (l : List Entry). l ++ entries_by here.lines_by.deeds) none_put in
      record {
        parts = parts;
        seat = seat;
        over = over;
        on = here;
        entries = entries;
        serves = subst (λ (l : List Entry). OnOk r.served (Served all lines r.answers.items l))
            (sym entries) here.lines_by.serves;
      }
