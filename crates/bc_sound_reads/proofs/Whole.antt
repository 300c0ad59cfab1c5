-- A run that serves lines over a sound pair, from its opening to its end.
use Rattle.std.proofs.Common.{◌≡◌, ℕ, Bool, List, [], ◌∷◌, sym, ap, ◌∙◌, subst}
use Rattle.std.specs.Prelude.{All, fold, map}
use Rattle.std.specs.List.{AllByRecursion}
use Rattle.std.proofs.lemmas.List.Elements.{All-head, All-tail}
use Rattle.std.proofs.lemmas.List.Sums.{fold-append}
use Rattle.bc_book.specs.Pass.{events_in}
use Rattle.bc_cached_serve.specs.bc_cached.Laws.{parts_in}
use Rattle.bc_cached_serve.proofs.Opened.{size_is}
use Rattle.bc_cached_serve.specs.Run.{HasRunOver, HasServedBy}
use Rattle.bc_cached_serve.specs.declared.whole_run.Outcome.{Outcome}
use Rattle.bc_disk.specs.Disk.{DiskFacts}
use Rattle.bc_events.specs.declared.event.Event.{Event}
use Rattle.bc_facts.specs.Layout.{IsLayoutOf}
use Rattle.bc_cached_serve.specs.bc_hand.Seats.{by, core, world}
use Rattle.bc_image.specs.Reading as pairs
use Rattle.bc_cached_serve.specs.bc_loaded.declared.loading.Loaded.{Loaded}
use Rattle.bc_cached_serve.specs.bc_machine.World.{Origin, World, after, opening}
use Rattle.bc_cached_serve.specs.bc_machine.declared.part.CorePart.{CorePart}
use Rattle.bc_meta.specs.Layout.{Layout}
use Rattle.bc_model.specs.Sector.{Image}
use Rattle.bc_opened.specs.Opening.{IsSoundOpeningOf}
use Rattle.bc_pair.specs.Found.{pair_of}
use Rattle.bc_parts.specs.Machine.{state_after}
use Rattle.bc_parts.specs.Seat.{Run}
use Rattle.bc_replay.specs.declared.held.Survey.{Survey}
use Rattle.bc_script.specs.Proper.{IsLine}
use Rattle.bc_script.specs.declared.line.Line.{Line}
use Rattle.bc_cached_serve.specs.bc_session.Laws.{HoldSound}
use Rattle.bc_cached_serve.specs.bc_session.Open.{ready_of}
use Rattle.bc_cached_serve.specs.bc_started.Laws.{AreUntorn, IsStartedFrom}
use Rattle.bc_super.specs.Super.{data_sectors}
use Rattle.bc_super.specs.declared.backing.BackingSuper.{BackingSuper}
use Rattle.bc_refusals.specs.Made.{TouchNoLeaf}
use Rattle.bc_sound_reads.specs.Laws.{FindsItSound, LawNotRefused}
use Rattle.bc_sound_reads.proofs.Lines.{IsCalm, IsServing, served_on}
use Rattle.bc_sound_reads.proofs.Over.{opening_of, over_first, none_touches, untorn_before, untouched}

module _ {C B : Type 0} (cache_facts : C → DiskFacts) (facts : B → DiskFacts)
    (s : Survey) (b : BackingSuper) (dirty : Bool) (cache : C) (backing : B) (c d : Image)
    (v : pairs.View) (layout : Layout) (loaded : Loaded) (lines : List Line) (r : Outcome C B)
    (are : All IsLine lines) (hold : HoldSound cache_facts facts s b cache backing c d v)
    (divided : IsLayoutOf v.geometry layout)
    (h : HasRunOver cache_facts facts s b dirty cache backing loaded lines r) (next_seq : ℕ)
    (o : Origin)
    (from : IsStartedFrom (pair_of (cache_facts cache) (facts backing) c d) v layout
    (parts_in (ready_of loaded cache h.over.part) h.over.is_loaded.are.leaves.pending) next_seq
    (world cache_facts facts h.seat) o)
    (untorn : AreUntorn o (state_after (core cache_facts facts) h.parts.run.start
    (events_in r.closed.pass)).log) where
  abbrev size : ℕ
  size = data_sectors (facts backing).sectors b

  abbrev lines_by : HasServedBy cache_facts facts h.parts size lines r h.seat h.on.before
  lines_by = h.on.lines_by

  abbrev before : World
  before = world cache_facts facts h.on.before

  -- ---- what no torn record matched

  untorn_last : AreUntorn o (world cache_facts facts h.on.closed.last).log
  untorn_last = subst (λ (x : World). AreUntorn o x.log) (sym h.on.ends) untorn

  untorn_joined : AreUntorn o before.log
  untorn_joined = let done = h.on.closed.made.done in
      untorn_before done.all before o
      (subst (λ (x : World). AreUntorn o x.log) done.is untorn_last)

  -- ---- which leaves were touched

  touched_first : TouchNoLeaf (world cache_facts facts h.seat).log
  touched_first = untouched cache_facts facts s b cache backing loaded h.parts h.seat h.over

  before_is : before ≡ fold after (world cache_facts facts h.seat) (map (by 16) lines_by.deeds)
  before_is = ap (λ (q : Run (CorePart C B)).
      fold after (opening cache_facts facts q.start) h.on.before.seen) lines_by.run
      ∙ ap (λ (l : List Event). fold after (opening cache_facts facts h.seat.run.start) l)
      lines_by.seen
      ∙ fold-append after (opening cache_facts facts h.seat.run.start) h.seat.seen
      (map (by 16) lines_by.deeds)

  touched_joined : TouchNoLeaf before.log
  touched_joined = subst (λ (x : World). TouchNoLeaf x.log) (sym before_is)
      (none_touches 16 lines_by.deeds lines_by.keeping (world cache_facts facts h.seat)
      touched_first)

  -- ---- the lines

  untorn_first : AreUntorn o (world cache_facts facts h.seat).log
  untorn_first = untorn_before (map (by 16) lines_by.deeds) (world cache_facts facts h.seat) o
      (subst (λ (x : World). AreUntorn o x.log) before_is untorn_joined)

  abbrev opened_is : IsSoundOpeningOf (pair_of (cache_facts cache) (facts backing) c d) v
      o.opening.machine o.parts
  opened_is = opening_of cache_facts facts s b cache backing c d v layout loaded h.parts h.seat hold
      divided h.over next_seq o from

  begins : IsServing cache_facts facts o v.geometry
      (pair_of (cache_facts cache) (facts backing) c d) v opened_is h.parts size h.seat
  begins =
      let first = over_first cache_facts facts s b cache backing c d v layout loaded h.parts h.seat
      hold divided h.over next_seq o from untorn_first in record {
        over = first;
        size_is = size_is cache_facts facts s b cache backing loaded h.parts h.seat h.over;
      }

  calm : IsCalm cache_facts facts o v.geometry
      (pair_of (cache_facts cache) (facts backing) c d) v opened_is h.parts size h.on.before
  calm = record { untorn = untorn_joined; touched = touched_joined }

  all_lines : (ls : List Line) → All IsLine ls → AllByRecursion IsLine ls
  all_lines [] all = tt
  all_lines (l ∷ ls) all = (All-head IsLine l ls all, all_lines ls (All-tail IsLine l ls all))

  pub finds : FindsItSound r
  finds = let served = served_on cache_facts facts o v.geometry
      (pair_of (cache_facts cache) (facts backing) c d) v opened_is h.parts size r.served lines
      r.answers.items h.seat h.on.before (all_lines lines are) lines_by.served begins calm in
      record {
        nodes = served.0;
        stops = served.1;
      }

pub law_not_refused : {C B : Type 0} (cache_facts : C → DiskFacts) (facts : B → DiskFacts)
    → LawNotRefused cache_facts facts
law_not_refused cache_facts facts s b dirty cache backing c d v layout loaded lines r are hold
    divided
    h next_seq o from untorn = finds cache_facts facts s b dirty cache backing c d v layout loaded
    lines r are hold divided h next_seq o from untorn
