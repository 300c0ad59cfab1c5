-- The opening of the whole machine's example is sound for what seats know.
use Rattle.std.proofs.Common.{◌≡◌, ◌≢◌, ℕ, ◌<◌, ◌≤◌, true, false, Some, refl, arith, ◌||◌, nat_le}
use Rattle.bc_books.specs.Shelves.{Priorities}
use Rattle.bc_meta.proofs.Lists.{by_le}
use Rattle.bc_leaves.specs.Parts.{NoNode}
use Rattle.bc_leaves_runs.proofs.Example.{only_0, no_leaf, no_inner}
use Rattle.bc_whole.proofs.Start.{opening, held, setup, sound as whole_sound, each_one, old_leaf, old_root}
use Rattle.bc_known.specs.Known.{AreLaid}
use Rattle.bc_known.specs.Laws.{IsSound}
use Rattle.bc_known_example.specs.Example.{HasOpening}

-- what isn't fixed lies behind the journal
area : (q : ℕ) → (nat_le q 1 || nat_le 11 q) ≡ false → (2 ≤ q) × (q < 11)
area q = by_le q 1 (λ t. (t || nat_le 11 q) ≡ false → (2 ≤ q) × (q < 11)) (λ _ e. absurd (cc))
    (λ gt. by_le 11 q (λ t. t ≡ false → (2 ≤ q) × (q < 11)) (λ _ e. absurd (cc))
    (λ lt _. (omega arith, omega arith)))

laid : AreLaid opening
laid = record {
  area = area;
  sector = λ q t b low high. omega arith;
  sets = refl;
}

pub sound : IsSound opening held
sound = record {
  whole = whole_sound;
  laid = laid;
  spare = each_one (λ q. setup.listed q ≡ Some Priorities) 4 refl;
  leaves = only_0 (λ k x. x.role ≢ NoNode → setup.node x.bucket ≡ true) old_leaf no_leaf (λ _. refl)
      (λ k ne. absurd (ne refl));
  inner_nodes = only_0 (λ k x. x.role ≢ NoNode → setup.node x.bucket ≡ true) old_root no_inner
      (λ _. refl) (λ k ne. absurd (ne refl));
}

pub has_opening : HasOpening
has_opening = (opening, held, sound)
