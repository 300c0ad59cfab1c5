-- Each pair that was made anew is opened, and one is there.
use Rattle.std.proofs.Common.{◌≡◌, inl, inr, true, false, List, [], ◌∷◌, refl, sym, subst, lit≤}
use Rattle.bc_disk.specs.declared.geometry.Geometry.{Geometry}
use Rattle.bc_jset.specs.Entries.{bucket_end}
use Rattle.bc_jset.specs.Records.{entry_kind}
use Rattle.bc_jset.proofs.Records.{entry_codec}
use Rattle.bc_record.proofs.Found.{found_stays}
use Rattle.bc_image.specs.NewPair.{new_pair}
use Rattle.bc_image.proofs.Examples.{geometry}
use Rattle.bc_image.proofs.NewPair.{backing, cache, is_formatted, superblocks}
use Rattle.bc_facts.proofs.Made as made
use Rattle.bc_known.specs.Acts.{CacheBarrier, Event}
use Rattle.bc_shows.specs.On.{IsRunOn}
use Rattle.bc_shows.proofs.Law as shows
use Rattle.bc_image.proofs.Fresh.{fresh_view}
use Rattle.bc_anew.specs.Laws.{HasExample, HasOpening, HasRun, LawAnew, LawOpening, LawShown}
use Rattle.bc_anew.proofs.Anew.{held, opened_on, opening, opening_of}
use Rattle.bc_anew.proofs.Run.{run_of, sealing}

pub law_anew : LawAnew
law_anew p b c g w f supers layout = (opening p b c g w layout f supers, held p b c g w layout f supers, refl, opened_on p b c g w layout f supers)

abbrev g : Geometry
g = geometry 8 (lit≤ tt)

no_true : false ≡ true → ⊥
no_true e = cc

pub law_shown : LawShown
law_shown p b g w x on next_seq es ran left v same is s =
    shows.law_shown w x next_seq es left v (subst (λ (y : Geometry). IsRunOn y w x next_seq es) (sym same) (record {
      machine = on.machine;
      sound = on.sound;
      course = ran.course;
      old_keys = λ key was. absurd (on.no_key key was);
      keys = ran.keys;
      no_torn = ran.no_torn;
    })) is s

pub example : HasExample
example =
    let w = made.law_layout g in
    let o = opening new_pair backing cache g w.0 w.1 is_formatted superblocks in
    let x = held new_pair backing cache g w.0 w.1 is_formatted superblocks in
    let is = opened_on new_pair backing cache g w.0 w.1 is_formatted superblocks in (
      backing,
      g,
      opening new_pair backing cache g w.0 w.1 is_formatted superblocks,
      held new_pair backing cache g w.0 w.1 is_formatted superblocks,
      is,
      λ next_seq. record {
        machine = is.machine;
        sound = is.sound;
        course = tt;
        old_keys = λ key was. absurd (is.no_key key was);
        keys = λ key i. absurd i;
        no_torn = record {
          entries = λ image q at left lt block e whole. inl (
            found_stays (entry_kind g) (entry_codec g) image new_pair.cache (bucket_end g q) at e whole.0 (λ s low high. elim (left s) [ inl same ↦ same | inr n ↦ absurd n ]) whole.1,
            whole.1,
          );
          sets = λ image q left own known stand s whole. absurd (no_true own);
        };
      },
    )

pub law_opening : LawOpening
law_opening p b c g w f supers layout =
    (fresh_view p b c g f, opening p b c g w layout f supers, held p b c g w layout f supers, refl, opening_of p b c g w layout f supers)

pub has_opening : HasOpening
has_opening =
    let w = made.law_layout g in (
      fresh_view new_pair backing cache g is_formatted,
      opening new_pair backing cache g w.0 w.1 is_formatted superblocks,
      held new_pair backing cache g w.0 w.1 is_formatted superblocks,
      opening_of new_pair backing cache g w.0 w.1 is_formatted superblocks,
    )

abbrev none : Event
none = record { seat = 0; act = CacheBarrier }

abbrev first : List Event → Event
first [] = none
first (e ∷ es) = e

abbrev rest : List Event → List Event
rest [] = []
rest (e ∷ es) = es

pub has_run : HasRun
has_run =
    let w = made.law_layout g in (
      fresh_view new_pair backing cache g is_formatted,
      opening new_pair backing cache g w.0 w.1 is_formatted superblocks,
      held new_pair backing cache g w.0 w.1 is_formatted superblocks,
      first (sealing new_pair backing cache g w.0 w.1 is_formatted superblocks),
      rest (sealing new_pair backing cache g w.0 w.1 is_formatted superblocks),
      run_of new_pair backing cache g w.0 w.1 is_formatted superblocks,
    )
