-- Each key of a leaf's sets lies in the leaf's range.
use Rattle.std.proofs.Common.{◌≡◌, ◌≢◌, ◌⊎◌, inl, inr, ℕ, Bool, true, false, List, [], ◌∷◌, Some, refl, sym, ap, ◌∙◌, subst}
use Rattle.std.specs.Prelude.{fold}
use Rattle.bc_request.specs.bc_deed.Flushed.{HasDone}
use Rattle.bc_disk.specs.Disk.{DiskFacts}
use Rattle.bc_events.specs.Acts.{acts_of}
use Rattle.bc_events.specs.Run.{acts, by}
use Rattle.bc_events.specs.declared.event.Deed.{Deed}
use Rattle.bc_events.specs.declared.event.Event.{Event}
use Rattle.bc_facts.proofs.Stood.{in_either}
use Rattle.bc_request.specs.bc_fetched.Fetched.{AreWritten}
use Rattle.bc_request.specs.bc_hand.Seats.{View, world}
use Rattle.bc_image.specs.Pair.{Pair}
use Rattle.bc_image.specs.Reading as pairs
use Rattle.bc_key.specs.declared.key.Key.{Key}
use Rattle.bc_known.specs.Laws.{IsSound}
use Rattle.bc_leaves.specs.Parts.{NoNode}
use Rattle.bc_request.specs.bc_machine.World.{IsCourseOf, Origin, World, after, replay}
use Rattle.bc_meta.specs.Facts.{In}
use Rattle.bc_meta.specs.Records.{Node}
use Rattle.bc_meta.specs.Tree.{NodeSet, set_keys}
use Rattle.bc_opened.specs.Opening.{IsSoundOpeningOf}
use Rattle.bc_session.proofs.of_bc_ranges.Acts.{Stage, made_run}
use Rattle.bc_session.proofs.of_bc_ranges.Slots.{AreMade, LeafMade, Lies}
use Rattle.bc_session.proofs.of_bc_ranges.Start.{opened_made}
use Rattle.bc_session.proofs.of_bc_ranges.Steps.{opened}
use Rattle.bc_session.specs.bc_ranges.Laws.{frame_of}
use Rattle.bc_session.specs.bc_ranges.Made.{Frame}
use Rattle.bc_shares.proofs.Law.{in_order}
use Rattle.bc_shares.specs.Shares.{LeafShare, NodeShare, lost_set, node_share, written_sets}
use Rattle.bc_refusals.specs.Made.{AreMadeIn, IsOfPair, TouchNoLeaf}
use Rattle.bc_refusals.proofs.Still.{still, untouched_before}

-- ---- a state of a course

made_in : (f : Frame) (o : Origin) (sound : IsSound o.opening.machine o.parts) → AreMade f o.parts
    → (es : List Event) → IsCourseOf o es → AreMadeIn f o es
    → Stage f o.opening.machine o.parts (replay o es).machine
made_in f o sound first [] course made = record {
  at = opened o.opening.machine o.parts o.next_seq sound;
  made = first;
}
made_in f o sound first (e ∷ es) course made = made_run f o.opening.machine o.parts sound
    (replay o es).machine (by e.seat (acts o.opening (replay o es) e))
    (in_order o.opening (replay o es) e
    (acts_of o.opening.machine (replay o es).machine e.seat e.deed) course.0.enabled)
    made.0 (made_in f o sound first es course.2 made.1)

are_made : (p : Pair) (v : pairs.View) (o : Origin)
    → IsSoundOpeningOf p v o.opening.machine o.parts → (es : List Event) → IsCourseOf o es
    → AreMadeIn (frame_of p v) o es → AreMade (frame_of p v) (replay o es).machine.whole.parts
are_made p v o open_ es course made = (made_in (frame_of p v) o open_.sound
    (opened_made p v o.opening.machine o.parts open_) es course made).made

-- ---- what came before

made_before : (f : Frame) (o : Origin) (es : List Event) (x : World)
    → AreMadeIn f o (fold after x es).log → AreMadeIn f o x.log
made_before f o [] x made = made
made_before f o (e ∷ es) x made = (made_before f o es (after x e) made).1

module _ {C B : Type 0} (cache_facts : C → DiskFacts) (backing_facts : B → DiskFacts) where
  pub pair_before : (p : Pair) (v : pairs.View) (o : Origin) (ds : List Deed)
      (a b : View cache_facts backing_facts) → HasDone cache_facts backing_facts ds a b
      → IsOfPair cache_facts backing_facts p v o b → IsOfPair cache_facts backing_facts p v o a
  pair_before p v o ds a b done of =
      let x = world cache_facts backing_facts a in record {
        opening = of.opening;
        made = elim of.made [
          | inl made ↦ inl (made_before (frame_of p v) o done.all x
              (subst (λ (y : World). AreMadeIn (frame_of p v) o y.log) done.is made))
          | inr off ↦ inr (untouched_before done.all x
              (subst (λ (y : World). TouchNoLeaf y.log) done.is off))
        ];
      }

-- ---- the keys of a leaf's sets

module _ (n : Node) (from end : ℕ) (made : LeafMade n from end) (key : Key) where
  in_written : (sent : Bool) → n.sent ≡ sent → In key (set_keys (written_sets sent n.last n.sets))
      → Lies from end key
  in_written false is there = made.sets key there
  in_written true is there = elim (in_either key n.last.keys (set_keys n.sets) there) [
    | inl last ↦ made.last (inl is) key last
    | inr rest ↦ made.sets key rest
  ]

  in_lost : (sent failed : Bool) → n.sent ≡ sent → n.failed ≡ failed → (lost : NodeSet)
      → lost_set sent failed n.last ≡ Some lost → In key lost.keys → Lies from end key
  in_lost true failed s f lost is there = absurd (cc)
  in_lost false false s f lost is there = absurd (cc)
  in_lost false true s f lost is there = made.last (inr f) key
      (let same : lost ≡ n.last = cc in subst (λ (x : NodeSet). In key x.keys) same there)

  lies_in : (ss : List NodeSet) → AreWritten n ss → In key (set_keys ss) → Lies from end key
  lies_in ss (inl is) there =
      in_written n.sent refl (subst (λ (l : List NodeSet). In key (set_keys l)) is there)
  lies_in ss (inr (lost, of, is)) there = elim (in_either key lost.keys
      (set_keys (node_share n).sets) (subst (λ (l : List NodeSet). In key (set_keys l)) is there)) [
        | inl here ↦ in_lost n.sent n.failed refl refl lost of here
        | inr rest ↦ in_written n.sent refl rest
      ]

-- ---- of a pair

-- of what a node has, these sets are written
abbrev WrittenIn : NodeShare → List NodeSet → Type 0
WrittenIn x ss = (ss ≡ x.sets)
    ⊎ ((lost : NodeSet) × (x.lost ≡ Some lost) × (ss ≡ lost ∷ x.sets))

-- each key of a leaf's sets lies in its range
pub leaf_keys_lie : (p : Pair) (v : pairs.View) (o : Origin)
    → IsSoundOpeningOf p v o.opening.machine o.parts → (es : List Event) → IsCourseOf o es
    → AreMadeIn (frame_of p v) o es ⊎ TouchNoLeaf es → (k : ℕ)
    → let st = (replay o es).machine.whole.parts in let leaf = st.leaves k in
    leaf.role ≢ NoNode → (key : Key) (ss : List NodeSet)
    → AreWritten (st.records.nodes leaf.bucket) ss → In key (set_keys ss)
    → Lies leaf.first leaf.end key
leaf_keys_lie p v o open_ es course (inl made) k some key ss are there =
    let st = (replay o es).machine.whole.parts in
    lies_in (st.records.nodes (st.leaves k).bucket) (st.leaves k).first (st.leaves k).end
    ((are_made p v o open_ es course made).leaves k some) key ss are there
leaf_keys_lie p v o open_ es course (inr off) k some key ss are there =
    let same = still o open_.sound es course off k some in
    subst (λ (x : LeafShare). WrittenIn x.node ss → Lies x.leaf.first x.leaf.end key) (sym same)
    (λ was. lies_in (o.parts.records.nodes (o.parts.leaves k).bucket) (o.parts.leaves k).first
    (o.parts.leaves k).end ((opened_made p v o.opening.machine o.parts open_).leaves k
    (λ none. some (ap (λ (x : LeafShare). x.leaf.role) same ∙ none))) key ss was there) are
