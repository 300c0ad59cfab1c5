-- Each kind of step keeps the rule of the table.
use Rattle.std.proofs.Common.{◌≡◌, ◌≢◌, ℕ, zero, suc, ◌+◌, ◌-◌, ◌%◌, ◌^◌, ◌<◌, ◌≤◌, eqb, Bool, true, false, List, [], ◌∷◌, ◌++◌, map, length, get_or, set, Option, Some, None, refl, sym, ap, ◌∙◌, subst, inl, inr, ⊎_elim, arith, length-set, length-append, get_or-set_other, get_or-set_same}
use Rattle.std.specs.Prelude.{slice_index, All}
use mathlib.Core.Logic.{dite}
use mathlib.Core.Option.{none, some, some-ne-none, some-injective}
use mathlib.Core.Option as maybe
use native.Mathlib.Decide.{ℕ_discrete, dec_le}
use lib.ListN.{get_elem?}
use lib.Seq.{set-get_or}
use prog.Atomic.{either}
use Rattle.atomic_table.specs.Table.{State, Me, step, Act, keeps, takes, gives, Valid, carried_after, stepped, rest, Allows, Splits, Joins, opening, Final, Seen}
use Rattle.atomic_table.proofs.Lists.{exchanged, at_longer, set_here, set_else, set_again, at_map, at_set}
use Rattle.std.proofs.Math.Nat.{mod-eq_of_lt}
use Rattle.std.proofs.lemmas.List.{length-map, append-nil}
use Rattle.std.proofs.lemmas.List.Sums.{sum_by_push}
use Rattle.std.proofs.lemmas.List.Elements.{All-nil, All-push, All-head, All-contains, Contains-append_right}
use Rattle.bc_parts.specs.declared.machine.Machine.{Ghosts}
use Rattle.bc_parts.specs.declared.table.Cargo.{Cargo}
use Rattle.bc_parts.specs.declared.table.Cargo.TheVariants.{Part, Book, Vector}
use Rattle.bc_parts.specs.declared.table.Knowledge.{Knowledge}
use Rattle.bc_parts.specs.declared.table.Start.{Start}
use Rattle.bc_parts.specs.Machine.{state_after, IsRun}
use Rattle.bc_parts.specs.Seat.{Holds, without}
use Rattle.bc_parts.specs.Later.{IsForeign, Grows}
use Rattle.bc_parts.specs.Rule.{Has, claim_of, Owners, PartIsHome, BookIsHome, VectorIsHome, Knows, Kept, Fresh, Whole, unaware, spent}
use Rattle.bc_parts.specs.Steps.{taking, laying, fetching, giving, looking, committing, promising, cutting, below, above, joining, Bears, LaterOf, Takes, claimed, laid, fetched, filled, looked, committed, promised, marked}
use Rattle.bc_parts.proofs.Holding.{Holds-without, without-Holds}
use Rattle.bc_parts.proofs.Interference.{Frame, Later-grows, Grows-nil, Grows-weaker, Grows-push, IsRun-push, state_after-push, stands-grows}
use Rattle.bc_parts.proofs.Lists.{put, put-here, put-else, spread, spread-inside, spread-below, spread-above, at-below, each-set, at-push, sum_by-put, at-le-sum_by}

not_out : (o : Option ℕ) (k : ℕ) → o ≡ None → o ≢ Some k
not_out o k home is = cc

out_else : (o : Option ℕ) (k i : ℕ) → o ≡ Some k → i ≢ k → o ≢ Some i
out_else o k i here other is = other (cc)

not_true : (b : Bool) → (b ≡ true → ⊥) → b ≡ false
not_true true never = absurd (never refl)
not_true false never = refl

module _ {Z P E B T : Type 0} (m : Ghosts Z P E B T) where
  abbrev events_in : List (ℕ × Option (Cargo P B)) → List E
  events_in ((k, Some (Book b)) ∷ xs) = m.events b
  events_in _ = []

module _ {Z P E B T : Type 0} (m : Ghosts Z P E B T) (start : List P) (seats : ℕ) where
  abbrev K : Type 0
  K = Knowledge P E

  abbrev C : Type 0
  C = Option (Cargo P B)

  abbrev S : Type 0
  S = State C K

  abbrev Homes : Type 0
  Homes = List (maybe.Option C)

  abbrev R : S → Type 0
  R s = Kept m start seats s

  abbrev Know : List E → ℕ → Owners → List ℕ → Homes → ℕ → K → Type 0
  Know log owed by words homes id v = Knows m start seats log owed by (claim_of words) (λ k. get_elem? homes k) id v

  -- only the seat `id` has the slot k
  alone : (s : S) (r : R s) (id k : ℕ) (v : K) → get_elem? s.views id ≡ some v → Has v k → (j : ℕ) (u : K) → j ≢ id → get_elem? s.views j ≡ some u → Has u k → ⊥
  alone s r id k v at has j u other there h = other (sym ((r.each j u there).slots k h).2 ∙ ((r.each id v at).slots k has).2)

  -- a seat with a slot has numbers
  live_with : (s : S) (r : R s) (id k : ℕ) (v : K) → get_elem? s.views id ≡ some v → Has v k → v.first < v.end
  live_with s r id k v at has = dite (dec_le v.end v.first) (λ le. absurd (subst (λ l. Holds l k) ((r.each id v at).bare le) has)) (λ ne. omega (arith, ne))

  later_of : Frame m → (s : S) (r : R s) (id : ℕ) (v : K) → v.first < v.end → v.middle ≡ v.end → get_elem? s.views id ≡ some v → LaterOf m v r.log
  later_of frame s r id v live whole at = let kn = r.each id v at in
      Later-grows m frame v.start v.first v.end v.held v.seen r.log (subst (λ (ps : List P). Grows m (length ps) v.first v.end v.held v.seen r.log) (sym (kn.begun live)) (subst (λ n. Grows m (length start) v.first n v.held v.seen r.log) whole kn.grows)) (subst (λ (ps : List P). IsRun m (m.opening ps) r.log) (sym (kn.begun live)) r.run)

  -- words and slots that differ at the slot k alone
  record Touches (s : S) (k : ℕ) (words : List ℕ) (homes : Homes) : Type 0 where
    words_are : length words ≡ length s.words
    homes_are : length homes ≡ length s.homes
    count : slice_index words 0 ≡ slice_index s.words 0
    claims : (i : ℕ) → i ≢ k → claim_of words i ≡ claim_of s.words i
    lying : (i : ℕ) → i ≢ k → get_elem? homes i ≡ get_elem? s.homes i

  touches_home : (s : S) (k : ℕ) (h : maybe.Option C) → Touches s k s.words (set s.homes k h)
  touches_home s k h = record { words_are = refl; homes_are = length-set s.homes k h; count = refl; claims = λ _ _. refl; lying = λ i other. set_else s.homes k i h other }

  touches_both : (s : S) (k y : ℕ) (h : maybe.Option C) → Touches s k (set s.words (k + 2) y) (set s.homes k h)
  touches_both s k y h = record {
    words_are = length-set s.words (k + 2) y;
    homes_are = length-set s.homes k h;
    count = get_or-set_other s.words (k + 2) 0 y 0 (λ e. absurd (omega arith));
    claims = λ i other. get_or-set_other s.words (k + 2) (i + 2) y 0 (λ e. other (omega arith));
    lying = λ i other. set_else s.homes k i h other;
  }

  -- what is known by a seat without that slot
  others_know : (log : List E) (owed : ℕ) (by : Owners) (s : S) (k id : ℕ) (words : List ℕ) (homes : Homes) → Touches s k words homes → (j : ℕ) (u : K) → (Has u k → ⊥)
      → Know log owed by s.words s.homes j u → Know log owed (record by { slot = put by.slot k id }) words homes j u
  others_know log owed by s k id words homes t j u lacks kn = let apart : (i : ℕ) → Has u i → i ≢ k = λ i h e. lacks (subst (Has u) e h) in record {
    grows = kn.grows;
    beside = kn.beside;
    middle = kn.middle;
    begun = kn.begun;
    bare = kn.bare;
    numbers = kn.numbers;
    slots = λ i h. let o = kn.slots i h in (o.0, (λ z. o.1 (sym (t.claims i (apart i h)) ∙ z)), put-else by.slot k id i (apart i h) ∙ o.2);
    book = kn.book;
    emptied = λ i h out. t.lying i (apart i h) ∙ kn.emptied i h out;
  }

  -- a step of the seat `id` that changes the slot k alone
  slot_step : (s : S) (r : R s) (id k : ℕ) (v w : K) (words : List ℕ) (homes : Homes) → get_elem? s.views id ≡ some v → w.promises ≡ v.promises → k ≤ length start → Touches s k words homes
      → ((j : ℕ) (u : K) → j ≢ id → get_elem? s.views j ≡ some u → Has u k → ⊥)
      → (k < length start → claim_of words k ≡ 0 → PartIsHome m start seats r.log k (get_elem? homes k))
      → (k ≡ length start → claim_of words k ≡ 0 → BookIsHome m start seats r.log r.owed (get_elem? homes k))
      → (claim_of words k ≢ 0 → Has w k)
      → ((i : ℕ) → i ≢ k → Has v i → Has w i)
      → Know r.log r.owed (record r.by { slot = put r.by.slot k id }) words homes id w
      → R record { words = words; homes = homes; views = set s.views id w }
  slot_step s r id k v w words homes at same inside t lack part book mine still knows = let here : id < length s.views = at-below s.views id v at in record {
    log = r.log;
    owed = r.owed;
    by = record r.by { slot = put r.by.slot k id };
    words = t.words_are ∙ r.words;
    slots = t.homes_are ∙ r.slots;
    run = r.run;
    numbered = r.numbered;
    count = t.count ∙ r.count;
    parts = λ i l z. dite (ℕ_discrete i k)
        (λ e. subst (λ j. PartIsHome m start seats r.log j (get_elem? homes j)) (sym e) (part (subst (λ j. j < length start) e l) (ap (claim_of words) (sym e) ∙ z)))
        (λ other. subst (PartIsHome m start seats r.log i) (sym (t.lying i other)) (r.parts i l (sym (t.claims i other) ∙ z)));
    book = λ z. dite (ℕ_discrete (length start) k)
        (λ e. subst (λ j. BookIsHome m start seats r.log r.owed (get_elem? homes j)) (sym e) (book (sym e) (ap (claim_of words) (sym e) ∙ z)))
        (λ other. subst (BookIsHome m start seats r.log r.owed) (sym (t.lying (length start) other)) (r.book (sym (t.claims (length start) other) ∙ z)));
    vector = subst (VectorIsHome m start seats) (sym (t.lying (length start + 1) (λ e. absurd (omega arith)))) r.vector;
    promises = (let sums = sum_by-put (λ (u : K). u.promises) s.views id v w at in let q = r.promises in omega (arith, sums, same, q));
    taken = λ i l z. dite (ℕ_discrete i k)
        (λ e. (w, ap (get_elem? (set s.views id w)) (put-here r.by.slot k id i e) ∙ set_here s.views id w here, subst (Has w) (sym e) (mine (λ y. z (ap (claim_of words) e ∙ y)))))
        (λ other. let o = r.taken i l (λ y. z (t.claims i other ∙ y)) in let is = put-else r.by.slot k id i other in dite (ℕ_discrete (r.by.slot i) id)
        (λ own. (w, ap (get_elem? (set s.views id w)) (is ∙ own) ∙ set_here s.views id w here, still i other (subst (λ u. Has u i) (some-injective o.0 v (sym o.1 ∙ (ap (get_elem? s.views) own ∙ at))) o.2)))
        (λ theirs. (o.0, ap (get_elem? (set s.views id w)) is ∙ (set_else s.views id (r.by.slot i) w theirs ∙ o.1), o.2)));
    each = each-set (Know r.log r.owed (record r.by { slot = put r.by.slot k id }) words homes) s.views id w knows
        (λ j u other there. others_know r.log r.owed r.by s k id words homes t j u (lack j u other there) (r.each j u there));
  }

  -- who has a slot has it still, where only the view of the seat `id` changes and keeps its slots
  still_taken : (s : S) (r : R s) (id : ℕ) (v w : K) → get_elem? s.views id ≡ some v → ((k : ℕ) → Has v k → Has w k)
      → (k : ℕ) → k ≤ length start → claim_of s.words k ≢ 0 → (u : K) × (get_elem? (set s.views id w) (r.by.slot k) ≡ some u) × Has u k
  still_taken s r id v w at still k l z = let o = r.taken k l z in dite (ℕ_discrete (r.by.slot k) id)
      (λ own. (w, ap (get_elem? (set s.views id w)) own ∙ set_here s.views id w (at-below s.views id v at), still k (subst (λ u. Has u k) (some-injective o.0 v (sym o.1 ∙ (ap (get_elem? s.views) own ∙ at))) o.2)))
      (λ theirs. (o.0, set_else s.views id (r.by.slot k) w theirs ∙ o.1, o.2))

  -- a step that changes the view of the seat `id` alone, which keeps its slots
  view_step : (s : S) (r : R s) (id : ℕ) (v w : K) → get_elem? s.views id ≡ some v → w.promises ≡ v.promises → ((k : ℕ) → Has v k → Has w k) → Know r.log r.owed r.by s.words s.homes id w
      → R record { words = s.words; homes = s.homes; views = set s.views id w }
  view_step s r id v w at same still knows = record {
    log = r.log;
    owed = r.owed;
    by = r.by;
    words = r.words;
    slots = r.slots;
    run = r.run;
    numbered = r.numbered;
    count = r.count;
    parts = r.parts;
    book = r.book;
    vector = r.vector;
    promises = (let sums = sum_by-put (λ (u : K). u.promises) s.views id v w at in let q = r.promises in omega (arith, sums, same, q));
    taken = still_taken s r id v w at still;
    each = each-set (Know r.log r.owed r.by s.words s.homes) s.views id w knows (λ j u other there. r.each j u there);
  }

  -- the words, where they are written as they were
  same_words : (s : S) (i : ℕ) (homes : Homes) (views : List K) → R record { words = s.words; homes = homes; views = views } → R record { words = set s.words i (get_or s.words i 0); homes = homes; views = views }
  same_words s i homes views kept = subst (λ (ws : List ℕ). R record { words = ws; homes = homes; views = views }) (sym (set-get_or s.words i 0)) kept

  -- the words, where one changes that neither counts nor claims
  other_words : (s : S) (r : R s) (words : List ℕ) → length words ≡ length s.words → slice_index words 0 ≡ slice_index s.words 0 → ((k : ℕ) → claim_of words k ≡ claim_of s.words k)
      → R record { words = words; homes = s.homes; views = s.views }
  other_words s r words long count claims = record {
    log = r.log;
    owed = r.owed;
    by = r.by;
    words = long ∙ r.words;
    slots = r.slots;
    run = r.run;
    numbered = r.numbered;
    count = count ∙ r.count;
    parts = λ k l z. r.parts k l (sym (claims k) ∙ z);
    book = λ z. r.book (sym (claims (length start)) ∙ z);
    vector = r.vector;
    promises = r.promises;
    taken = λ k l z. r.taken k l (λ y. z (claims k ∙ y));
    each = λ id v at. subst (λ (claim : ℕ → ℕ). Knows m start seats r.log r.owed r.by claim (λ k. get_elem? s.homes k) id v) (λ i k. sym (claims k) i) (r.each id v at);
  }

  -- what lies at home where nobody has the slot
  at_home : (s : S) (r : R s) (k : ℕ) → k ≤ length start → claim_of s.words k ≡ 0 → (c : C) × (get_elem? s.homes k ≡ some (some c)) × Bears m start r.log r.owed k c
  at_home s r k inside free = dite (ℕ_discrete k (length start))
      (λ e. let b = r.book (ap (claim_of s.words) (sym e) ∙ free) in
      (Some (Book b.0), ap (get_elem? s.homes) e ∙ b.1, ((λ l. absurd (omega arith)), (λ _. (b.0, refl, b.2, b.3)))))
      (λ other. let p = r.parts k (omega (arith, other)) free in
      (Some (Part p.0), p.1, ((λ l. (p.0, refl, p.2)), (λ e. absurd (other e)))))

  knows_taken : (s : S) (r : R s) (id k : ℕ) (v : K) → get_elem? s.views id ≡ some v → v.first < v.end → v.middle ≡ v.end → v.out ≡ None → k ≤ length start → claim_of s.words k ≡ 0
      → Know r.log r.owed (record r.by { slot = put r.by.slot k id }) (set s.words (k + 2) 1) (set s.homes k none) id (taking v k r.log r.owed)
  knows_taken s r id k v at live whole home inside free =
      let kn = r.each id v at in
      let one : get_or (set s.words (k + 2) 1) (k + 2) 0 ≡ 1 = get_or-set_same s.words (k + 2) 1 0 (let l = r.words in omega arith) in
      let other : (i : ℕ) → Has v i → i ≢ k = λ i h e. (kn.slots i h).1 (ap (claim_of s.words) e ∙ free) in record {
        grows = Grows-nil m (length start) v.first v.middle (k ∷ v.held) r.log r.log refl;
        beside = λ l. absurd (omega arith);
        middle = kn.middle;
        begun = kn.begun;
        bare = λ e. absurd (omega arith);
        numbers = kn.numbers;
        slots = λ i h. ⊎_elim
            (λ (e : i ≡ k). (subst (λ j. j ≤ length start) (sym e) inside, (λ z. absurd (let z' = ap (claim_of (set s.words (k + 2) 1)) (sym e) ∙ z in omega (arith, one, z'))), put-here r.by.slot k id i e))
            (λ (old : Has v i). let o = kn.slots i old in (o.0, (λ z. o.1 (sym (get_or-set_other s.words (k + 2) (i + 2) 1 0 (λ q. other i old (omega arith))) ∙ z)), put-else r.by.slot k id i (other i old) ∙ o.2)) h;
        book = λ _. (refl, refl);
        emptied = λ i h out. ⊎_elim
            (λ (e : i ≡ k). absurd (out (ap Some (sym e))))
            (λ (old : Has v i). set_else s.homes k i none (other i old) ∙ kn.emptied i old (not_out v.out i home)) h;
      }

  pub claims : Frame m → (slots id k : ℕ) (me : Me C K) → me.0.first < me.0.end → me.0.middle ≡ me.0.end → me.0.out ≡ None → k ≤ length start
      → Allows R slots id me (k + 2) (λ n. either (eqb n 0) 1 n) (claimed m (step slots (k + 2) 0 1 none) me)
  claims frame slots id k me live whole home inside s r deep at small =
      let v : K = me.0 in
      exchanged (get_or s.words (k + 2) 0) 0 1
      (λ y. (w : K) × (a : Act C) × Valid s.homes me.1 a × R (stepped s (k + 2) y id me.1 w a) × claimed m (step slots (k + 2) 0 1 none) me (get_or s.words (k + 2) 0) (w, carried_after me.1 a))
      (λ free. let c = at_home s r k inside free in
      let w : K = taking v k r.log r.owed in
      let t = touches_both s k 1 none in
      let taken : claim_of (set s.words (k + 2) 1) k ≢ 0 = λ z. absurd (let one : get_or (set s.words (k + 2) 1) (k + 2) 0 ≡ 1 = get_or-set_same s.words (k + 2) 1 0 (let l = r.words in omega arith) in omega (arith, one, z)) in
      let tells : Takes m k me (w, (k, c.0) ∷ me.1) = record {
        cargo = c.0;
        carried = refl;
        view = refl;
        later = later_of frame s r id v live whole at;
        bears = subst (λ (ps : List P). Bears m ps r.log r.owed k c.0) (sym ((r.each id v at).begun live)) c.2;
        owed = (let l = at-le-sum_by (λ (u : K). u.promises) s.views id v at in let q = r.promises in omega (arith, l, q));
      } in (
        w,
        takes k c.0,
        c.1,
        slot_step s r id k v w (set s.words (k + 2) 1) (set s.homes k none) at refl inside t
            (λ j u other there h. ((r.each j u there).slots k h).1 free)
            (λ l z. absurd (taken z))
            (λ e z. absurd (taken z))
            (λ _. inl refl)
            (λ i other h. inr h)
            (knows_taken s r id k v at live whole home inside free),
        (λ j e. let same : k ≡ j = omega arith in ((λ busy. absurd (busy free)), (λ _. subst (λ i. Takes m i me (w, (k, c.0) ∷ me.1)) same tells))),
      ))
      (λ busy. (
        v,
        keeps,
        tt,
        same_words s (k + 2) s.homes (set s.views id v) (subst (λ (vs : List K). R record { words = s.words; homes = s.homes; views = vs }) (sym (set_again s.views id v at)) r),
        (λ j e. ((λ _. refl), (λ z. absurd (busy z)))),
      ))

  -- what is known by a seat whose slot k goes out or home, where its other slots are home
  knows_moved : (s : S) (r : R s) (id k : ℕ) (v : K) (out : Option ℕ) (h : maybe.Option C) → get_elem? s.views id ≡ some v → Has v k
      → ((i : ℕ) → i ≢ k → v.out ≢ Some i) → (out ≢ Some k → h ≡ some None)
      → Know r.log r.owed (record r.by { slot = put r.by.slot k id }) s.words (set s.homes k h) id (record v { out = out })
  knows_moved s r id k v out h at has others here =
      let kn = r.each id v at in
      let row : k < length s.homes = let l = r.slots in let l' = (kn.slots k has).0 in omega arith in record {
        grows = record { others = kn.grows.others; behind = kn.grows.behind; foreign = kn.grows.foreign };
        beside = λ l. kn.beside l;
        middle = kn.middle;
        begun = kn.begun;
        bare = kn.bare;
        numbers = kn.numbers;
        slots = λ i held. let o = kn.slots i held in (o.0, o.1, dite (ℕ_discrete i k) (λ e. put-here r.by.slot k id i e) (λ other. put-else r.by.slot k id i other ∙ o.2));
        book = kn.book;
        emptied = λ i held away. dite (ℕ_discrete i k)
            (λ e. ap (get_elem? (set s.homes k h)) e ∙ (set_here s.homes k h row ∙ ap some (here (λ q. away (q ∙ ap Some (sym e))))))
            (λ other. set_else s.homes k i h other ∙ kn.emptied i held (others i other));
      }

  -- such a step keeps the rule
  moved : (s : S) (r : R s) (id k : ℕ) (v : K) (out : Option ℕ) (h : maybe.Option C) → get_elem? s.views id ≡ some v → Has v k
      → ((i : ℕ) → i ≢ k → v.out ≢ Some i) → (out ≢ Some k → h ≡ some None)
      → R record { words = s.words; homes = set s.homes k h; views = set s.views id (record v { out = out }) }
  moved s r id k v out h at has others here = let o = (r.each id v at).slots k has in
      slot_step s r id k v (record v { out = out }) s.words (set s.homes k h) at refl o.0 (touches_home s k h) (alone s r id k v at has)
      (λ l z. absurd (o.1 z)) (λ e z. absurd (o.1 z)) (λ _. has) (λ i other held. held) (knows_moved s r id k v out h at has others here)

  pub lays : (slots id k i : ℕ) (me : Me C K) → Has me.0 k → me.0.out ≡ Some k → me.1 ≡ (k, None) ∷ []
      → Allows R slots id me i (λ n. n) (laid m (step slots i 0 0 none) me)
  lays slots id k i me has out carried s r deep at small =
      let v : K = me.0 in
      let kept = moved s r id k v None (some None) at has (λ j other. out_else v.out k j out other) (λ _. refl) in (
        laying v,
        gives,
        tt,
        subst (λ cs. R (stepped s i (get_or s.words i 0) id cs (laying v) gives)) (sym carried) (same_words s i (set s.homes k (some None)) (set s.views id (laying v)) kept),
        refl,
      )

  pub fetches : (slots id k : ℕ) (me : Me C K) → Has me.0 k → me.0.out ≡ None
      → Allows R slots id me (k + 2) (λ n. n) (fetched m (step slots (k + 2) 0 0 none) me)
  fetches slots id k me has home s r deep at small =
      let v : K = me.0 in
      let kept = moved s r id k v (Some k) none at has (λ j other. not_out v.out j home) (λ away. absurd (away refl)) in (
        fetching v k,
        takes k None,
        (r.each id v at).emptied k has (not_out v.out k home),
        same_words s (k + 2) (set s.homes k none) (set s.views id (fetching v k)) kept,
        (λ j e. let same : k ≡ j = omega arith in ap (λ i. (fetching v i, (i, None) ∷ me.1)) same),
      )

  knows_given : (s : S) (r : R s) (id k : ℕ) (v : K) (c : C) → get_elem? s.views id ≡ some v → v.first < v.end → Has v k → v.out ≡ Some k
      → Know r.log r.owed (record r.by { slot = put r.by.slot k id }) (set s.words (k + 2) 0) (set s.homes k (some c)) id (giving v k)
  knows_given s r id k v c at live has out =
      let kn = r.each id v at in
      let old : (i : ℕ) → Has (giving v k) i → (i ≢ k) × Has v i = λ i h. Holds-without k i v.held h in record {
        grows = Grows-weaker m (length start) v.first v.middle v.first v.middle v.held (without k v.held) v.seen r.log (λ n low high. (low, high)) (λ i h. (old i h).1) kn.grows;
        beside = λ l. kn.beside l;
        middle = kn.middle;
        begun = kn.begun;
        bare = λ e. absurd (omega arith);
        numbers = kn.numbers;
        slots = λ i h. let t = old i h in let o = kn.slots i t.1 in
            (o.0, (λ z. o.1 (sym (get_or-set_other s.words (k + 2) (i + 2) 0 0 (λ q. t.0 (omega arith))) ∙ z)), put-else r.by.slot k id i t.0 ∙ o.2);
        book = λ h. kn.book (old (length start) h).1;
        emptied = λ i h away. let t = old i h in set_else s.homes k i (some c) t.0 ∙ kn.emptied i t.1 (out_else v.out k i out t.0);
      }

  module _ (frame : Frame m) where
    pub clears : (slots id k : ℕ) (me : Me C K) (c : C) → me.0.first < me.0.end → Has me.0 k → me.0.out ≡ Some k → me.1 ≡ (k, c) ∷ [] → Bears m me.0.start me.0.seen me.0.owed k c
        → Allows R slots id me (k + 2) (λ _. 0) (λ _. filled m (step slots (k + 2) 0 0 none) me 0)
    clears slots id k me c live has out carried bears s r deep at small =
        let v : K = me.0 in
        let kn = r.each id v at in
        let o = kn.slots k has in
        let homes : Homes = set s.homes k (some c) in
        let here : get_elem? homes k ≡ some (some c) = set_here s.homes k (some c) (let l = r.slots in let l' = o.0 in omega arith) in
        let mine : Bears m start v.seen v.owed k c = subst (λ (ps : List P). Bears m ps v.seen v.owed k c) (kn.begun live) bears in
        let kept = slot_step s r id k v (giving v k) (set s.words (k + 2) 0) homes at refl o.0 (touches_both s k 0 (some c)) (alone s r id k v at has)
        (λ l z. let p = mine.0 l in (p.0, here ∙ ap (λ (y : C). some (some y)) p.1, stands-grows m frame start v.first v.middle v.held v.seen r.log k p.0 kn.grows r.run has p.2))
        (λ e z. let b = mine.1 e in let all = kn.book (subst (Has v) e has) in
        (b.0, here ∙ ap (λ (y : C). some (some y)) b.1, b.2 ∙ all.0, (let room = b.3 in let owes = all.1 in omega (arith, room, owes))))
        (λ nz. absurd (nz (get_or-set_same s.words (k + 2) 0 0 (let l = r.words in let l' = o.0 in omega arith))))
        (λ i other h. without-Holds k i v.held other h)
        (knows_given s r id k v c at live has out) in (
          giving v k,
          gives,
          tt,
          subst (λ cs. R (stepped s (k + 2) 0 id cs (giving v k) gives)) (sym carried) kept,
          (λ j e. let same : k ≡ j = omega arith in ap (λ i. (giving v i, rest me.1)) same),
        )

  pub looks : Frame m → (slots id : ℕ) (me : Me C K) → me.0.first < me.0.end → Allows R slots id me 0 (λ n. n) (looked m (step slots 0 0 0 none) me)
  looks frame slots id me live s r deep at small =
      let v : K = me.0 in
      let kn = r.each id v at in
      let w : K = looking v r.log in
      let run : IsRun m (m.opening v.start) r.log = subst (λ (ps : List P). IsRun m (m.opening ps) r.log) (sym (kn.begun live)) r.run in
      let counted : (first end : ℕ) (parts : List ℕ) (seen : List E) → Grows m (length start) first end parts seen r.log
      → Grows m (length v.start) first end parts seen r.log =
      λ first end parts seen h. subst (λ (ps : List P). Grows m (length ps) first end parts seen r.log) (sym (kn.begun live)) h in
      let knows : Know r.log r.owed r.by s.words s.homes id w = record {
        grows = Grows-nil m (length start) v.first v.end v.held r.log r.log refl;
        beside = λ l. absurd (omega arith);
        middle = (omega arith, omega arith);
        begun = kn.begun;
        bare = kn.bare;
        numbers = kn.numbers;
        slots = kn.slots;
        book = λ h. (refl, (kn.book h).1);
        emptied = kn.emptied;
      } in (
        w,
        keeps,
        tt,
        same_words s 0 s.homes (set s.views id w) (view_step s r id v w at refl (λ k h. h) knows),
        record { is = refl; long = sym r.count; later = Later-grows m frame v.start v.first v.middle v.held v.seen r.log (counted v.first v.middle v.held v.seen kn.grows) run; beside = λ l. Later-grows m frame v.start v.middle v.end [] v.beside r.log (counted v.middle v.end [] v.beside (kn.beside l)) run },
      )

  -- a number is noted, and a view changes that keeps the seat's slots
  noted : (s : S) (r : R s) (y : ℕ) (views : List K) → R record { words = s.words; homes = s.homes; views = views } → R record { words = set s.words 1 y; homes = s.homes; views = views }
  noted s r y views kept = other_words record { words = s.words; homes = s.homes; views = views } kept (set s.words 1 y) (length-set s.words 1 y)
      (get_or-set_other s.words 1 0 y 0 (λ e. absurd (omega arith))) (λ k. get_or-set_other s.words 1 (k + 2) y 0 (λ e. absurd (omega arith)))

  pub marks : (slots id at : ℕ) (me : Me C K) → Allows R slots id me 1 (λ _. at) (λ _. marked m (step slots 1 at 0 none) me at)
  marks slots id at me s r deep there small =
      let v : K = me.0 in
      let kn = r.each id v there in
      let w : K = cutting v at in
      let knows : Know r.log r.owed r.by s.words s.homes id w = record {
        grows = record { others = kn.grows.others; behind = kn.grows.behind; foreign = kn.grows.foreign };
        beside = λ l. kn.beside l;
        middle = kn.middle;
        begun = kn.begun;
        bare = kn.bare;
        numbers = kn.numbers;
        slots = kn.slots;
        book = kn.book;
        emptied = kn.emptied;
      } in
      (w, keeps, tt, noted s r at (set s.views id w) (view_step s r id v w there refl (λ k h. h) knows), refl)

  pub promises : (slots id more : ℕ) (me : Me C K) → Has me.0 (length start) → Allows R slots id me 1 (λ _. more) (λ _. promised m (step slots 1 more 0 none) me more)
  promises slots id more me has s r deep at small =
      let v : K = me.0 in
      let kn = r.each id v at in
      let w : K = promising v more in
      let out = kn.slots (length start) has in
      let mine : Know r.log (r.owed + more) r.by s.words s.homes id w = record {
        grows = record { others = kn.grows.others; behind = kn.grows.behind; foreign = kn.grows.foreign };
        beside = λ l. kn.beside l;
        middle = kn.middle;
        begun = kn.begun;
        bare = kn.bare;
        numbers = kn.numbers;
        slots = kn.slots;
        book = λ h. ((kn.book h).0, ap (λ n. n + more) (kn.book h).1);
        emptied = kn.emptied;
      } in
      let theirs : (j : ℕ) (u : K) → j ≢ id → get_elem? s.views j ≡ some u → Know r.log (r.owed + more) r.by s.words s.homes j u = λ j u other there. let ku = r.each j u there in record {
        grows = ku.grows;
        beside = ku.beside;
        middle = ku.middle;
        begun = ku.begun;
        bare = ku.bare;
        numbers = ku.numbers;
        slots = ku.slots;
        book = λ h. absurd (alone s r id (length start) v at has j u other there h);
        emptied = ku.emptied;
      } in
      let kept : R record { words = s.words; homes = s.homes; views = set s.views id w } = record {
        log = r.log;
        owed = r.owed + more;
        by = r.by;
        words = r.words;
        slots = r.slots;
        run = r.run;
        numbered = r.numbered;
        count = r.count;
        parts = r.parts;
        book = λ z. absurd (out.1 z);
        vector = r.vector;
        promises = (let sums = sum_by-put (λ (u : K). u.promises) s.views id v w at in let q = r.promises in omega (arith, sums, q));
        taken = still_taken s r id v w at (λ k h. h);
        each = each-set (Know r.log (r.owed + more) r.by s.words s.homes) s.views id w mine theirs;
      } in
      (w, keeps, tt, noted s r more (set s.views id w) kept, refl)

  -- an event of the seat `id`, which holds what it changes, is foreign to each other seat
  foreign_to : (s : S) (r : R s) (id : ℕ) (v : K) (e : E) → get_elem? s.views id ≡ some v → v.first < v.end → m.number e ≡ v.first → ((k : ℕ) → m.changes (length start) e k ≡ true → Has v k)
      → (j : ℕ) (u : K) → j ≢ id → get_elem? s.views j ≡ some u → (low high : ℕ) (parts : List ℕ) → ((n : ℕ) → low ≤ n → n < high → (u.first ≤ n) × (n < u.end)) → ((k : ℕ) → Holds parts k → Has u k)
      → IsForeign m (length start) low high parts e
  foreign_to s r id v e at live number holds j u other there low high parts within fewer = let kn = r.each id v at in let ku = r.each j u there in (
    (λ n a b is. let in' = within n a b in other (sym (ku.numbers n in'.0 in'.1).1 ∙ (ap r.by.number (sym is ∙ number) ∙ (kn.numbers v.first (omega arith) live).1))),
    (λ k h. not_true (m.changes (length start) e k) (λ yes. alone s r id k v at (holds k yes) j u other there (fewer k h))),
  )

  -- what another seat knows after such an event
  theirs_know : (s : S) (r : R s) (id : ℕ) (v : K) (e : E) (words : List ℕ) → get_elem? s.views id ≡ some v → v.first < v.end → m.number e ≡ v.first → ((k : ℕ) → m.changes (length start) e k ≡ true → Has v k) → Has v (length start)
      → ((k : ℕ) → claim_of words k ≡ claim_of s.words k) → (j : ℕ) (u : K) → j ≢ id → get_elem? s.views j ≡ some u → Know (r.log ++ e ∷ []) (r.owed - 1) r.by words s.homes j u
  theirs_know s r id v e words at live number holds has claims j u other there = let ku = r.each j u there in let mid = ku.middle in record {
    grows = Grows-push m (length start) u.first u.middle u.held u.seen r.log e (foreign_to s r id v e at live number holds j u other there u.first u.middle u.held (λ n a b. (a, omega (arith, mid, b))) (λ k h. h)) ku.grows;
    beside = λ l. Grows-push m (length start) u.middle u.end [] u.beside r.log e (foreign_to s r id v e at live number holds j u other there u.middle u.end [] (λ n a b. (omega (arith, mid, a), b)) (λ k h. absurd h)) (ku.beside l);
    middle = ku.middle;
    begun = ku.begun;
    bare = ku.bare;
    numbers = ku.numbers;
    slots = λ k h. let o = ku.slots k h in (o.0, (λ z. o.1 (sym (claims k) ∙ z)), o.2);
    book = λ h. absurd (alone s r id (length start) v at has j u other there h);
    emptied = ku.emptied;
  }

  module _ (frame : Frame m) where
    pub commits : (slots id : ℕ) (me : Me C K) (b : B) (e : E) → me.0.first < me.0.end → me.0.middle ≡ me.0.end → me.0.start ≡ start → Has me.0 (length start) → me.1 ≡ (length start, Some (Book b)) ∷ []
        → m.events b ≡ me.0.seen ++ e ∷ [] → length (m.events b) < 2 ^ 64 → m.number e ≡ me.0.first → 0 < me.0.promises → m.enabled (state_after m start me.0.seen) e
        → ((k : ℕ) → m.changes (length start) e k ≡ true → Has me.0 k)
        → Allows R slots id me 0 (λ n. (n + 1) % 2 ^ 64) (committed m (step slots 0 1 0 none) me)
    commits slots id me b e live whole begun has carried adds few number promise may holds s r deep at small =
        let v : K = me.0 in
        let kn = r.each id v at in
        let out = kn.slots (length start) has in
        let all : v.seen ≡ r.log = (kn.book has).0 in
        let owes : v.owed ≡ r.owed = (kn.book has).1 in
        let log : List E = r.log ++ e ∷ [] in
        let is : m.events b ≡ log = adds ∙ ap (λ l. l ++ e ∷ []) all in
        let longer : length log ≡ length r.log + 1 = length-append r.log (e ∷ []) in
        let w : K = committing v (m.events b) in
        let y : ℕ = (get_or s.words 0 0 + 1) % 2 ^ 64 in
        let words : List ℕ = set s.words 0 y in
        let claims : (k : ℕ) → claim_of words k ≡ claim_of s.words k = λ k. get_or-set_other s.words 0 (k + 2) y 0 (λ q. absurd (omega arith)) in
        let mine : Know log (r.owed - 1) r.by words s.homes id w = record {
          grows = Grows-nil m (length start) v.first v.middle v.held (m.events b) log (sym is);
          beside = λ l. absurd (omega arith);
          middle = kn.middle;
          begun = kn.begun;
          bare = kn.bare;
          numbers = kn.numbers;
          slots = λ k h. let o = kn.slots k h in (o.0, (λ z. o.1 (sym (claims k) ∙ z)), o.2);
          book = λ _. (is, ap (λ n. n - 1) owes);
          emptied = kn.emptied;
        } in
        let now : m.enabled (state_after m start r.log) e = subst (λ l. m.enabled (state_after m start l) e) all may in
        let kept : R record { words = words; homes = s.homes; views = set s.views id w } = record {
          log = log;
          owed = r.owed - 1;
          by = r.by;
          words = length-set s.words 0 y ∙ r.words;
          slots = r.slots;
          run = IsRun-push m start r.log e r.run now;
          numbered = All-push (λ (x : E). m.number x < seats) r.log e r.numbered (subst (λ n. n < seats) (sym number) (kn.numbers v.first (omega arith) live).0);
          count = get_or-set_same s.words 0 y 0 (let l = r.words in omega arith)
              ∙ (mod-eq_of_lt (let c = r.count in let q : length (m.events b) ≡ length log = ap length is in omega (arith, c, q, longer, few)) ∙ (let c = r.count in omega (arith, c, longer)));
          parts = λ k l z. let p = r.parts k l (sym (claims k) ∙ z) in
              (p.0, p.1, subst (m.stands k p.0) (sym (state_after-push m start r.log e)) (frame start r.log k p.0 e r.run now (not_true (m.changes (length start) e k) (λ yes. (kn.slots k (holds k yes)).1 (sym (claims k) ∙ z))) p.2));
          book = λ z. absurd (out.1 (sym (claims (length start)) ∙ z));
          vector = r.vector;
          promises = (let sums = sum_by-put (λ (u : K). u.promises) s.views id v w at in let q = r.promises in let l = at-le-sum_by (λ (u : K). u.promises) s.views id v at in omega (arith, sums, q, l, promise));
          taken = λ k l z. still_taken s r id v w at (λ i h. h) k l (λ y. z (claims k ∙ y));
          each = each-set (Know log (r.owed - 1) r.by words s.homes) s.views id w mine (theirs_know s r id v e words at live number holds has claims);
        } in
        (w, keeps, tt, kept, (λ k b' q. ap (λ l. (committing v l, me.1)) (ap (events_in m) (sym carried ∙ q))))

  pub splits : (id : ℕ) (v : K) → v.middle ≡ v.end → v.first < v.cut → v.cut < v.end → Splits R id v (below v) (above v)
  splits id v whole low high s r at =
      let kn = r.each id v at in
      let new : ℕ = length s.views in
      let by : Owners = record r.by { number = spread r.by.number v.cut v.end new } in
      let left : List K = set s.views id (below v) in
      let mid = kn.middle in
      let keeps_below : Know r.log r.owed by s.words s.homes id (below v) = record {
        grows = Grows-weaker m (length start) v.first v.middle v.first v.cut v.held v.held v.seen r.log (λ n a b. (a, omega (arith, whole, high, b))) (λ k h. h) kn.grows;
        beside = λ l. absurd (omega arith);
        middle = (omega arith, omega arith);
        begun = λ l. kn.begun (omega arith);
        bare = λ e. absurd (omega arith);
        numbers = λ n a b. let t = kn.numbers n a (omega arith) in (t.0, spread-below r.by.number v.cut v.end new n b ∙ t.1);
        slots = kn.slots;
        book = kn.book;
        emptied = kn.emptied;
      } in
      let keeps_above : Know r.log r.owed by s.words s.homes new (above v) = record {
        grows = Grows-weaker m (length start) v.first v.middle v.cut v.middle v.held [] v.seen r.log (λ n a b. (omega arith, b)) (λ k h. absurd h) kn.grows;
        beside = λ l. absurd (omega arith);
        middle = (omega arith, omega arith);
        begun = λ l. kn.begun (omega arith);
        bare = λ e. refl;
        numbers = λ n a b. let t = kn.numbers n (omega arith) b in (t.0, spread-inside r.by.number v.cut v.end new n a b);
        slots = λ k h. absurd h;
        book = λ h. absurd h;
        emptied = λ k h. absurd h;
      } in
      let theirs : (j : ℕ) (u : K) → j ≢ id → get_elem? s.views j ≡ some u → Know r.log r.owed by s.words s.homes j u = λ j u other there. let ku = r.each j u there in record {
        grows = ku.grows;
        beside = ku.beside;
        middle = ku.middle;
        begun = ku.begun;
        bare = ku.bare;
        numbers = λ n a b. let t = ku.numbers n a b in (
          t.0,
          dite (dec_le v.cut n)
              (λ from. dite (dec_le v.end n) (λ beyond. spread-above r.by.number v.cut v.end new n beyond ∙ t.1) (λ ne. absurd (other (sym t.1 ∙ (kn.numbers n (omega arith) (omega (arith, ne))).1))))
              (λ ne. spread-below r.by.number v.cut v.end new n (omega (arith, ne)) ∙ t.1),
        );
        slots = ku.slots;
        book = ku.book;
        emptied = ku.emptied;
      } in record {
        log = r.log;
        owed = r.owed;
        by = by;
        words = r.words;
        slots = r.slots;
        run = r.run;
        numbered = r.numbered;
        count = r.count;
        parts = r.parts;
        book = r.book;
        vector = r.vector;
        promises = (let f : K → ℕ = λ u. u.promises in let sums = sum_by-put f s.views id v (below v) at in let q = r.promises in let more = sum_by_push f left (above v) in omega (arith, sums, q, more));
        taken = λ k l z. let o = still_taken s r id v (below v) at (λ i h. h) k l z in (o.0, at_longer left (above v ∷ []) (r.by.slot k) o.0 o.1, o.2);
        each = λ j u there. ⊎_elim
            (λ (t : get_elem? left j ≡ some u). each-set (Know r.log r.owed by s.words s.homes) s.views id (below v) keeps_below theirs j u t)
            (λ (t : (j ≡ length left) × (above v ≡ u)). subst (λ (z : ℕ × K). Know r.log r.owed by s.words s.homes z.0 z.1) (λ i. (sym (t.0 ∙ length-set s.views id (below v)) i, t.1 i)) keeps_above)
            (at-push left (above v) u j there);
      }

  all_foreign : (es : List E) → All (IsForeign m (length start) 0 0 []) es
  all_foreign es = λ k d l. ((λ n a b. absurd (omega arith)), (λ i h. absurd h))

  pub joins : (id other : ℕ) (v w : K) → v.first < v.end → v.middle ≡ v.end → w.first < w.end → w.middle ≡ w.end → w.first ≡ v.end → w.held ≡ [] → Joins R id v other w (joining v w) spent
  joins id other v w live whole live_w whole_w next idle s r at apart at_other =
      let both : K = joining v w in
      let there : get_elem? s.views other ≡ some w = sym (set_else s.views id other both apart) ∙ at_other in
      let kn = r.each id v at in
      let kw = r.each other w there in
      let by : Owners = record r.by { number = spread r.by.number w.first w.end id } in
      let one : Know r.log r.owed by s.words s.homes id both = record {
        grows = record { others = kn.grows.others; behind = kn.grows.behind; foreign = kn.grows.foreign };
        beside = λ l. Grows-weaker m (length start) w.first w.middle v.middle w.end w.held [] w.seen r.log (λ n a b. (omega arith, omega arith)) (λ k h. absurd h) kw.grows;
        middle = (omega arith, omega arith);
        begun = λ l. kn.begun live;
        bare = λ e. absurd (omega arith);
        numbers = λ n a b. dite (dec_le v.end n)
            (λ from. ((kw.numbers n (omega arith) b).0, spread-inside r.by.number w.first w.end id n (omega arith) b))
            (λ ne. let t = kn.numbers n a (omega (arith, ne)) in (t.0, spread-below r.by.number w.first w.end id n (omega (arith, ne, next)) ∙ t.1));
        slots = kn.slots;
        book = kn.book;
        emptied = kn.emptied;
      } in
      let nobody : Know r.log r.owed by s.words s.homes other spent = record {
        grows = record { others = r.log; behind = refl; foreign = all_foreign r.log };
        beside = λ l. absurd (omega arith);
        middle = (omega arith, omega arith);
        begun = λ l. absurd (omega arith);
        bare = λ e. refl;
        numbers = λ n a b. absurd (omega arith);
        slots = λ k h. absurd h;
        book = λ h. absurd h;
        emptied = λ k h. absurd h;
      } in
      let theirs : (j : ℕ) (u : K) → j ≢ id → j ≢ other → get_elem? s.views j ≡ some u → Know r.log r.owed by s.words s.homes j u = λ j u other_id other_than is. let ku = r.each j u is in record {
        grows = ku.grows;
        beside = ku.beside;
        middle = ku.middle;
        begun = ku.begun;
        bare = ku.bare;
        numbers = λ n a b. let t = ku.numbers n a b in (
          t.0,
          dite (dec_le w.first n)
              (λ from. dite (dec_le w.end n) (λ beyond. spread-above r.by.number w.first w.end id n beyond ∙ t.1) (λ ne. absurd (other_than (sym t.1 ∙ (kw.numbers n from (omega (arith, ne))).1))))
              (λ ne. spread-below r.by.number w.first w.end id n (omega (arith, ne)) ∙ t.1),
        );
        slots = ku.slots;
        book = ku.book;
        emptied = ku.emptied;
      } in record {
        log = r.log;
        owed = r.owed;
        by = by;
        words = r.words;
        slots = r.slots;
        run = r.run;
        numbered = r.numbered;
        count = r.count;
        parts = r.parts;
        book = r.book;
        vector = r.vector;
        promises = (let f : K → ℕ = λ u. u.promises in let sums = sum_by-put f s.views id v both at in let sums' = sum_by-put f (set s.views id both) other w spent at_other in let q = r.promises in omega (arith, sums, sums', q));
        taken = λ k l z. let o = still_taken s r id v both at (λ i h. h) k l z in
            (o.0, set_else (set s.views id both) other (r.by.slot k) spent (λ e. absurd (subst (λ hs. Holds hs k) idle (subst (λ u. Has u k) (some-injective o.0 w (sym o.1 ∙ (ap (get_elem? (set s.views id both)) e ∙ at_other))) o.2))) ∙ o.1, o.2);
        each = each-set (Know r.log r.owed by s.words s.homes) (set s.views id both) other spent nobody
            (λ j u other_than is. ⊎_elim
            (λ (t : (j ≡ id) × (both ≡ u)). subst (λ (z : ℕ × K). Know r.log r.owed by s.words s.homes z.0 z.1) (λ i. (sym t.0 i, t.1 i)) one)
            (λ (t : (j ≢ id) × (get_elem? s.views j ≡ some u)). theirs j u t.0 other_than t.1) (at_set s.views id j both u is));
      }

  pub opens : (about : Start P) (words : List ℕ) (slots : List C) → about.parts.value.items ≡ start → about.seats ≡ seats → 0 < seats → Fresh m start seats words slots → R (opening words slots (unaware about))
  opens about words slots is many live f = record {
    log = [];
    owed = 0;
    by = record { slot = λ _. 0; number = λ _. 0 };
    words = f.word_count;
    slots = length-map slots some ∙ f.slot_count;
    run = tt;
    numbered = All-nil (λ (e : E). m.number e < seats);
    count = f.zeros 0;
    parts = λ k l z. let p = f.parts k l in (p.0, at_map some slots k (Some (Part p.0)) p.1, p.2);
    book = λ z. (f.book.0, at_map some slots (length start) (Some (Book f.book.0)) f.book.1, f.book.2, omega arith);
    vector = (f.vector.0, at_map some slots (length start + 1) (Some (Vector f.vector.0)) f.vector.1, f.vector.2, f.vector.3);
    promises = refl;
    taken = λ k l nz. absurd (nz (f.zeros (k + 2)));
    each = λ id v at. only id v at;
  }
    where
      Q : ℕ → K → Type 0
      Q = Know [] 0 record { slot = λ _. 0; number = λ _. 0 } words (map some slots)

      first : Q 0 (unaware about)
      first = record {
        grows = Grows-nil m (length start) 0 about.seats [] [] [] refl;
        beside = λ l. absurd (omega arith);
        middle = (omega arith, omega arith);
        begun = λ l. is;
        bare = λ e. refl;
        numbers = λ n a b. (subst (λ k. n < k) many b, refl);
        slots = λ k h. absurd h;
        book = λ h. absurd h;
        emptied = λ k h. absurd h;
      }

      only : (id : ℕ) (v : K) → get_elem? (unaware about ∷ []) id ≡ some v → Q id v
      only zero v at = subst (Q 0) (some-injective (unaware about) v at) first
      only (suc id) v at = absurd (some-ne-none v (sym at))

  -- a list behind which no seat can have put an event is the whole list
  none_others : (end : ℕ) (parts : List ℕ) (seen others : List E) → end ≡ seats → All (λ e. m.number e < seats) (seen ++ others) → All (IsForeign m (length start) 0 end parts) others → others ≡ []
  none_others end parts seen [] all numbered foreign = refl
  none_others end parts seen (e ∷ es) all numbered foreign =
      let low : m.number e < seats = All-contains (λ (x : E). m.number x < seats) (seen ++ e ∷ es) e numbered (Contains-append_right seen (e ∷ es) e (0, omega arith, refl)) in
      absurd ((All-head (IsForeign m (length start) 0 end parts) e es foreign).0 (m.number e) (omega arith) (omega arith) refl)

  pub closes : (words : List ℕ) (slots : List C) (id : ℕ) (v : K) → v.first ≡ 0 → v.end ≡ seats → v.first < v.end → v.middle ≡ v.end → v.held ≡ [] → Final (Seen R id v) words slots → Whole m start seats v.seen slots
  closes words slots id v zeroth all live whole idle f =
      let s = f.0 in
      let r : R s = f.1.0 in
      let at = f.1.1 in
      let kn = r.each id v at in
      let grows : Grows m (length start) 0 v.end v.held v.seen r.log = subst (λ n. Grows m (length start) n v.end v.held v.seen r.log) zeroth (subst (λ n. Grows m (length start) v.first n v.held v.seen r.log) whole kn.grows) in
      let nothing = none_others v.end v.held v.seen grows.others all (subst (All (λ (e : E). m.number e < seats)) grows.behind r.numbered) grows.foreign in
      let same : r.log ≡ v.seen = grows.behind ∙ (ap (λ l. v.seen ++ l) nothing ∙ append-nil v.seen) in
      let free : (k : ℕ) → k ≤ length start → claim_of s.words k ≡ 0 = λ k l. dite (ℕ_discrete (claim_of s.words k) 0) (λ z. z) (λ nz.
      let o = r.taken k l nz in
      let live_o = live_with s r (r.by.slot k) k o.0 o.1 o.2 in
      let t = (r.each (r.by.slot k) o.0 o.1).numbers o.0.first (omega arith) live_o in
      let own : r.by.slot k ≡ id = sym t.1 ∙ (kn.numbers o.0.first (omega arith) (let few = t.0 in omega arith)).1 in
      absurd (subst (λ hs. Holds hs k) idle (subst (λ u. Has u k) (some-injective o.0 v (sym o.1 ∙ (ap (get_elem? s.views) own ∙ at))) o.2))) in record {
        parts = λ k l. let p = r.parts k l (free k (omega arith)) in (p.0, f.4 k (Some (Part p.0)) p.1, subst (λ log. m.stands k p.0 (state_after m start log)) same p.2);
        book = (let b = r.book (free (length start) (omega arith)) in (b.0, f.4 (length start) (Some (Book b.0)) b.1, b.2 ∙ same));
        vector = (r.vector.0, f.4 (length start + 1) (Some (Vector r.vector.0)) r.vector.1, r.vector.2, r.vector.3);
        run = subst (IsRun m (m.opening start)) same r.run;
      }
