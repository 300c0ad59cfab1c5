-- No bucket that lies behind the device's last one was ever raised.
use Rattle.std.proofs.Common.{◌≡◌, ◌⊎◌, inl, inr, ℕ, zero, suc, ◌+◌, ◌-◌, ◌*◌, ◌<◌, ◌≤◌, Bool, true, false, List, [], ◌∷◌, length, refl, sym, ap, ◌∙◌, arith}
use Rattle.std.specs.Prelude.{min}
use Rattle.std.proofs.Math.Nat.{min-eq_left, min-eq_right, suc-mul, zero-mul}
use Rattle.std.proofs.lemmas.Bool.{cases_lt}
use Rattle.std.proofs.lemmas.List.{length-append}
use Rattle.bc_books.specs.After as book_step
use Rattle.bc_books.specs.Books.{Books, DropNode, MakeNode, Raise, Regroup, Setup, Step}
use Rattle.bc_books.specs.Enabled.{CanStep}
use Rattle.bc_books.specs.Invariant.{IsInOrder}
use Rattle.bc_books.specs.Marks as mark
use Rattle.bc_data.specs.After as flow_step
use Rattle.bc_data.specs.Data as flow
use Rattle.bc_data.specs.Enabled as flow_act
use Rattle.bc_data.specs.Enabled.{steps_of}
use Rattle.bc_disk.specs.Chain.{records_in_set}
use Rattle.bc_disk.specs.declared.geometry.Geometry.{Geometry}
use Rattle.bc_events.specs.Acts.{acts_of}
use Rattle.bc_events.specs.Run as core
use Rattle.bc_events.specs.declared.event.Event.{Event}
use Rattle.bc_facts.specs.Layout.{IsLayoutOf}
use Rattle.bc_facts.specs.Seen.{gens_from}
use Rattle.bc_known.proofs.Law.{At, order_at}
use Rattle.bc_known.specs.Acts.{Act, Alone, Install, Keyed, Seal, State, after}
use Rattle.bc_known.specs.Asked.{AsksSteps}
use Rattle.bc_known.specs.Laws.{IsSound}
use Rattle.bc_known.specs.Run.{IsEnabled}
use Rattle.bc_leaves.proofs.Chains.{put_else}
use Rattle.bc_leaves.specs.Parts as parts
use Rattle.bc_chains.specs.bc_machine.World.{IsCourseOf, IsOrigin, Origin, World, replay}
use Rattle.bc_meta.proofs.Chains as chains
use Rattle.bc_meta.specs.Chain.{Leads, bytes_of}
use Rattle.bc_meta.specs.Layout.{Layout, PrioSet}
use Rattle.bc_model.specs.Sector.{Image}
use Rattle.bc_prio.specs.Set.{records_in}
use Rattle.bc_shares.proofs.Acts.{AllActs}
use Rattle.bc_shares.proofs.Law.{in_order}
use Rattle.bc_shares.proofs.Parts.{kept_at}
use Rattle.bc_shares.specs.Shares.{books_of}
use Rattle.bc_whole.specs.Run.{by}
use Rattle.bc_whole.specs.State as whole
use Rattle.bc_whole.specs.State.{NewChain, SameChain}
use Rattle.bc_whole.specs.Together.{shelved}
use Rattle.bc_chained.proofs.Course.{at_course}
use Rattle.bc_chained.proofs.Versions.{gen_drop, gen_past}

-- ---- a fixed bucket is never raised

not_free : (m : mark.Mark) → mark.is_free m ≡ true → m ≡ mark.Metadata → ⊥
not_free m free is = let no = ap mark.is_free is in cc

abbrev Stays : ℕ → Books → Books → Type 0
Stays q a b = b.generations.version q ≡ a.generations.version q

fixed_shelved : (w : Setup) (k : Books) (x : Step) (q : ℕ) → IsInOrder w k → w.fixed q ≡ true
    → CanStep w k x → Stays q k (book_step.after w k x)
fixed_shelved w k (Raise b) q order fixed can =
    put_else k.generations.version b (suc (k.generations.version b)) q
    (λ same. not_free (k.mark b) can.0.free
    (ap k.mark (sym same) ∙ order.marked.marked q (inl fixed)))
fixed_shelved w k x q order fixed can = refl

fixed_act : (w : flow.Opening) (st : flow.State) (j q : ℕ) → IsInOrder w.books st.books
    → w.books.fixed q ≡ true → (act : flow.Act) → flow_act.IsEnabled w st j act
    → Stays q st.books (book_step.fold w.books st.books (steps_of st.candidates j act))
fixed_act w st j q order fixed (flow.Shelve x) on =
    fixed_shelved w.books st.books x q order fixed on.steps.0
fixed_act w st j q order fixed act on = refl

fixed_install : (w : whole.Opening) (f : flow.State) (p : parts.State) (j q : ℕ) (un : ℕ → Bool)
    (xs : List Step) → AsksSteps p j un xs
    → Stays q f.books (flow_step.course w.flow f (by j (shelved xs))).books
fixed_install w f p j q un [] asks = refl
fixed_install w f p j q un (Regroup leaf changed counts last ∷ xs) asks = fixed_install w
    (flow_step.after w.flow f j (flow.Shelve (Regroup leaf changed counts last))) p j q un xs asks.1
fixed_install w f p j q un (MakeNode h b ∷ xs) asks = fixed_install w
    (flow_step.after w.flow f j (flow.Shelve (MakeNode h b))) p j q un xs asks.1
fixed_install w f p j q un (DropNode b ∷ xs) asks = fixed_install w
    (flow_step.after w.flow f j (flow.Shelve (DropNode b))) p j q un xs asks.1
fixed_install w f p j q un (x ∷ xs) asks = absurd asks.0

fixed_one : (w : whole.Opening) (x : parts.State) → IsSound w x → (q : ℕ)
    → w.flow.books.fixed q ≡ true → (st : State) (i : ℕ) (act : Act) → At w x st
    → IsEnabled w st i act → Stays q (books_of st) (books_of (after w st i act))
fixed_one w x sound q fixed st i (Alone act) at on = fixed_act w.flow st.whole.flow i q
    (order_at w x st.whole sound at.at) fixed act on.data_allows.0
fixed_one w x sound q fixed st i (Keyed act slot keys) at on = fixed_act w.flow st.whole.flow i q
    (order_at w x st.whole sound at.at) fixed act on.data_allows.0
fixed_one w x sound q fixed st i (Seal last_seq rest root SameChain) at on = refl
fixed_one w x sound q fixed st i (Seal last_seq rest root (NewChain buckets gens)) at on = refl
fixed_one w x sound q fixed st i (Install un steps) at on =
    fixed_install w st.whole.flow st.whole.parts i q un steps on.asks.2
fixed_one w x sound q fixed st i act at on = refl

all_acts : (acts : List Act) → AllActs (λ act. Unit {0}) acts
all_acts [] = tt
all_acts (act ∷ acts) = (tt, all_acts acts)

fixed_course : (o : Origin) → IsSound o.opening.machine o.parts → (q : ℕ)
    → o.opening.machine.flow.books.fixed q ≡ true → (es : List Event) → IsCourseOf o es
    → (books_of (replay o es).machine).generations.version q
    ≡ o.opening.machine.flow.books.version q
fixed_course o sound q fixed [] on = refl
fixed_course o sound q fixed (e ∷ es) on =
    let w = o.opening.machine in
    let st = replay o es in
    kept_at w o.parts sound (λ act. Unit {0}) (λ a b. Stays q (books_of a) (books_of b)) (record {
      same = λ a. refl;
      both = λ a b c one two. two ∙ one;
      one = λ st i act at all on. fixed_one w o.parts sound q fixed st i act at on;
    }) st.machine e.seat
    (core.acts_or_none (acts_of w st.machine e.seat e.deed)) (at_course o sound es on.2)
    (all_acts (core.acts_or_none (acts_of w st.machine e.seat e.deed)))
    (in_order o.opening st e (acts_of w st.machine e.seat e.deed) on.0.enabled)
    ∙ fixed_course o sound q fixed es on.2

-- ---- how many generations a chain has

gens_long : (bytes : List ℕ) (i n : ℕ) → length (gens_from bytes i n) ≡ n
gens_long bytes i zero = refl
gens_long bytes i (suc n) = ap suc (gens_long bytes (suc i) n)

pub bytes_long : (gens : List ℕ) → length (bytes_of gens) ≡ length gens
bytes_long [] = refl
bytes_long (g ∷ gs) = ap suc (bytes_long gs)

part_less : (count size part : ℕ) → min size (count - part * size)
    + (count - suc part * size) ≤ count - part * size
part_less count size part = go (cases_lt (count - part * size) size)
  where
    go : (count - part * size < size) ⊎ (size ≤ count - part * size)
        → min size (count - part * size) + (count - suc part * size) ≤ count - part * size
    go (inl less) =
        let more = suc-mul part size in
        let least : min size (count - part * size) ≡ count - part * size
        = min-eq_right (omega (arith, less)) in
        omega (arith, more, least, less)
    go (inr all) =
        let more = suc-mul part size in
        let least : min size (count - part * size) ≡ size = min-eq_left all in
        omega (arith, more, least, all)

module _ (g : Geometry) (w : Layout) (l : IsLayoutOf g w) (image : Image) where
  leads_few : (part from : ℕ) (qs gens : List ℕ) (to : ℕ) → Leads w image part from qs gens to
      → length gens ≤ g.nbuckets - part * records_in_set g
  leads_few part from [] gens to is =
      let none = ap (λ (xs : List ℕ). length xs) is.1 in omega (arith, none)
  leads_few part from (q ∷ qs) gens to is =
      let found = (l.prios.found image part (w.first q + w.bucket_sectors) (w.first q) is.2.0).0
      is.2.1 in
      let long = ap (λ (x : PrioSet). length x.gens) (sym found.2)
      ∙ gens_long found.0 0 (records_in g part) in
      let rest = leads_few (suc part) is.2.0.next qs is.2.2.0 to is.2.2.2 in
      let both = ap (λ (xs : List ℕ). length xs) is.2.2.1
      ∙ length-append is.2.0.gens is.2.2.0 in
      let less = part_less g.nbuckets (records_in_set g) part in
      omega (arith, long, rest, both, less)

-- ---- the law

pub none_behind : (x : World) (o : Origin) (g : Geometry) (q : ℕ) → IsOrigin x o
    → IsCourseOf o x.log → IsLayoutOf g o.opening.machine.layout
    → o.opening.machine.before ≡ g.first_bucket → o.opening.machine.layout.buckets ≤ q
    → (books_of (replay o x.log).machine).generations.version q ≡ 0
none_behind x o g q is on layout before past =
    fixed_course o is.sound q fixed x.log on ∙ sym (is.sound.whole.gens q)
    ∙ gen_drop o.opening.machine.before o.opening.machine.store.gens q
    ∙ gen_past o.opening.machine.store.gens (o.opening.machine.before + q) few
  where
    on_ : (b : Bool) → (b ≡ false → ⊥) → b ≡ true
    on_ true wrong = refl
    on_ false wrong = absurd (wrong refl)

    fixed : o.opening.machine.flow.books.fixed q ≡ true
    fixed = on_ (o.opening.machine.flow.books.fixed q)
        (λ off. (let below = (is.sound.laid.area q off).1 in omega (arith, below, past)))

    few : length o.opening.machine.store.gens ≤ o.opening.machine.before + q
    few =
        let s = o.opening.machine.store in
        let leads = ((chains.law_chain o.opening.machine.layout s.image s.newest.prio
        (record { buckets = s.chain; gens = bytes_of s.gens })).0 is.sound.whole.store.chain).0 in
        let most = leads_few g o.opening.machine.layout layout s.image 0 s.newest.prio s.chain
        (bytes_of s.gens) 0 leads in
        let long = bytes_long s.gens in
        let none = zero-mul (records_in_set g) in
        let count = layout.buckets in
        omega (arith, most, long, none, count, before, past)
