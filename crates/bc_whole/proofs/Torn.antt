-- What goes wrong without a condition: the example's run up to some act, and an act that doesn't go
-- together.
use Rattle.std.proofs.Common.{◌≡◌, ℕ, ◌/◌, Bool, true, false, List, [], ◌∷◌, ◌++◌, refl, sym, subst, arith, if◌then◌else◌, ◌==◌}
use Rattle.bc_books.specs.Shelves.{Tree, IsPinned, Fresh, Spent}
use Rattle.bc_books.specs.Books.{Step, MakeNode, DropNode, unused}
use Rattle.bc_books.specs.Enabled.{CanRaise}
use Rattle.bc_whole.specs.State.{State, LetGo, Install, Act}
use Rattle.bc_whole.specs.Run.{IsRun, after}
use Rattle.bc_whole.specs.Laws.{IsUnneeded}
use Rattle.bc_whole.specs.Teeth.{LawTeethLetGo, LawTeethDrop}
use Rattle.bc_whole.proofs.Start.{opening, held, sound, setup}
use Rattle.bc_whole.proofs.Built.{s0, building, builds, by_one, stays}
use Rattle.bc_whole.proofs.Grown.{s14, unused_2, begin_act, seal_act, entry_act, on8, on9, on10, on11, on12, on13, can_install, regroup}
use Rattle.bc_whole.specs.State.{CacheBarrier, MakeDurable}
use Rattle.bc_whole.proofs.Failed.{run_on}

-- the new root is durable, and the change isn't over
abbrev pub renewing : List Act
renewing = begin_act ∷ seal_act ∷ CacheBarrier ∷ entry_act ∷ CacheBarrier ∷ MakeDurable ∷ []

renews : IsRun opening s0 (by_one building ++ by_one renewing)
renews = run_on s0 (by_one building) (by_one renewing) builds (
  on8,
  (on9, (on10, (on11, (on12, (on13, tt))))),
)

-- the owner of a place in a bucket that was kept for nodes
fresh_in : (b : ℕ) → (if b == 7 then Fresh else (if unused setup b then Fresh else Spent)) ≡ Fresh
    → (t : ℕ) → t / 4 ≡ b → IsPinned (if (t / 4) == 7 then Fresh else (if unused setup
    (t / 4) then Fresh else Spent)) → ⊥
fresh_in b h t is = subst (λ (x : ℕ). IsPinned (if x == 7 then Fresh else
    (if unused setup x then Fresh else Spent)) → ⊥) (sym is) (subst (λ o. IsPinned o → ⊥) (sym h)
    (λ p. p))

abbrev torn : State
torn = after opening s14 1 (LetGo 5 false)

raise_5 : CanRaise setup torn.flow.books 5
raise_5 = (
  record {
    unpinned = fresh_in 5 refl;
    not_held = ((λ e. cc), λ i h. let e = h.1 in cc);
    free = refl;
    near = omega arith;
  },
  refl,
)

needed : (st : State) (q : ℕ) → st.store.places.records.unused q ≡ false → IsUnneeded opening st q
    → ⊥
needed st q used un = differ (st.store.places.records.unused q) used un.no_node
  where
    differ : (t : Bool) → t ≡ false → t ≡ true → ⊥
    differ t a b = cc

pub teeth_let_go : LawTeethLetGo
teeth_let_go = (
  opening,
  held,
  by_one building ++ by_one renewing,
  1,
  5,
  (
    false,
    record {
      sound = sound;
      course = renews;
      flow = (record { heard = refl; steps = (((Tree, refl), refl), tt); can = refl }, tt);
      store = (refl, tt, tt, (refl, refl), tt);
      ends = tt;
      broken = (raise_5, needed torn 5 refl);
    },
  ),
)

-- an install that gives up the new root
abbrev dropping : List Step
dropping = MakeNode 1 5 ∷ MakeNode 1 6 ∷ regroup ∷ DropNode 6 ∷ []

abbrev dropped : State
dropped = after opening s14 1 (Install unused_2 dropping)

raise_6 : CanRaise setup dropped.flow.books 6
raise_6 = (
  record {
    unpinned = fresh_in 6 refl;
    not_held = ((λ e. cc), λ i h. let e = h.1 in cc);
    free = refl;
    near = omega arith;
  },
  refl,
)

pub teeth_drop : LawTeethDrop
teeth_drop = (
  opening,
  held,
  by_one building ++ by_one renewing,
  1,
  6,
  unused_2,
  (
    dropping,
    record {
      sound = sound;
      course = renews;
      flow = (
        record { heard = refl; steps = (refl, tt); can = refl },
        (
          record { heard = refl; steps = (refl, tt); can = refl },
          (
            record {
              heard = refl;
              steps = (
                record {
                  later = λ s. omega arith;
                  known =
                      λ l. omega arith;
                  waits = λ s e. omega arith;
                  last_known = omega arith;
                },
                tt,
              );
              can = tt;
            },
            (record { heard = refl; steps = (refl, tt); can = tt }, tt),
          ),
        ),
      );
      store = (
        refl,
        (can_install, tt),
        tt,
        (refl, stays s14.store (5 ∷ 6 ∷ []) refl),
        (refl, tt, tt, (refl, refl), (refl, tt, tt, (refl, refl), tt)),
      );
      ends = tt;
      broken = (raise_6, needed dropped 6 refl);
    },
  ),
)
