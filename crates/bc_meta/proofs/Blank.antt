-- Zeros behind what is written of a node.
use Rattle.std.proofs.Common.{◌≡◌, inl, inr, ℕ, zero, suc, ◌+◌, ◌-◌, ◌<◌, ◌≤◌, Bool, true, false, List, [], ◌∷◌, ◌++◌, length, replicate, Option, Some, None, if◌then◌else◌, refl, sym, ap, ◌∙◌, subst, arith}
use Rattle.std.proofs.lemmas.List.{length-append, length-replicate}
use Rattle.bc_model.specs.Sector.{Image, Value, at_run}
use Rattle.bc_model.specs.Pattern.{zeros}
use Rattle.bc_disk.specs.Device.{Among, Content, MayLeave, Only, besides, failed, instead, settled, written}
use Rattle.bc_meta.specs.Tree.{NodeSet, Owner}
use Rattle.bc_meta.specs.Layout.{Layout, node_end, set_len}
use Rattle.bc_meta.specs.Records.{MayStand, Node, failed_node, new_node, sent_node}
use Rattle.bc_meta.specs.Places.{IsFirstWrite}
use Rattle.bc_meta.proofs.Runs.{by_test}
use Rattle.bc_meta.proofs.Firm.{Off, ReadsOn, off_failed, off_run, reads_written}

-- ---- runs

at_front : (p : ℕ) (xs ys : List Value) (t : ℕ) (v : Value) → at_run p xs t ≡ Some v → at_run p (xs ++ ys) t ≡ Some v
at_front p [] ys t v h = absurd (cc)
at_front p (x ∷ xs) ys t v h =
    by_test p t (λ b. (if b then Some x else at_run (suc p) xs t) ≡ Some v → (if b then Some x else at_run (suc p) (xs ++ ys) t) ≡ Some v)
    (λ _ k. k) (λ _ k. at_front (suc p) xs ys t v k) h

at_behind : (p : ℕ) (xs ys : List Value) (t : ℕ) → p + length xs ≤ t → at_run p (xs ++ ys) t ≡ at_run (p + length xs) ys t
at_behind p [] ys t le = ap (λ (n : ℕ). at_run n ys t) (omega arith)
at_behind p (x ∷ xs) ys t le =
    by_test p t (λ b. (if b then Some x else at_run (suc p) (xs ++ ys) t) ≡ at_run (p + suc (length xs)) ys t)
    (λ e. absurd (omega arith)) (λ _. at_behind (suc p) xs ys t (omega arith) ∙ ap (λ (n : ℕ). at_run n ys t) (omega arith))

at_zeros : (n p t : ℕ) → p ≤ t → t < p + n → at_run p (replicate n zeros) t ≡ Some zeros
at_zeros zero p t le lt = absurd (omega arith)
at_zeros (suc n) p t le lt =
    by_test p t (λ b. (if b then Some zeros else at_run (suc p) (replicate n zeros) t) ≡ Some zeros)
    (λ _. refl) (λ ne. at_zeros n (suc p) t (omega arith) (omega arith))

-- ---- a first write

module _ (w : Layout) (o : Owner) (set : NodeSet) (values : List Value) (first : IsFirstWrite w o set values) (room : w.begins o + set_len w set ≤ node_end w o) where
  front_long : length first.front ≡ set_len w set
  front_long = w.sets.long o first.front set first.spelled

  pub first_long : length values ≡ w.node_sectors
  first_long =
      let front = front_long in
      let rest = length-replicate (w.node_sectors - set_len w set) zeros in
      let all = length-append first.front (replicate (w.node_sectors - set_len w set) zeros) in
      ap (λ (vs : List Value). length vs) first.values_are ∙ all ∙ omega (arith, front, rest, room)

  -- what is read of the set
  pub first_reads : (d : Content) → ReadsOn (written (w.begins o) values d) (w.begins o) first.front
  first_reads d t v h =
      reads_written d (w.begins o) values t v (subst (λ (vs : List Value). at_run (w.begins o) vs t ≡ Some v) (sym first.values_are) (at_front (w.begins o) first.front (replicate (w.node_sectors - set_len w set) zeros) t v h))

  -- and behind it
  pub first_zeros : (t : ℕ) → w.begins o + set_len w set ≤ t → t < node_end w o → at_run (w.begins o) values t ≡ Some zeros
  first_zeros t ge lt =
      let front = front_long in
      subst (λ (vs : List Value). at_run (w.begins o) vs t ≡ Some zeros) (sym first.values_are)
      (at_behind (w.begins o) first.front (replicate (w.node_sectors - set_len w set) zeros) t (omega (arith, front, ge))
      ∙ at_zeros (w.node_sectors - set_len w set) (w.begins o + length first.front) t (omega (arith, front, ge)) (omega (arith, front, lt, room)))

-- ---- what stands behind a node's sets

-- Of a known node a crash may leave zeros everywhere behind its sets, and leaves nothing else where
-- no set may stand. So it is with what is read, there and behind a first set that was sent.
pub record Blank (w : Layout) (d : Content) (n : Node) (next : ℕ) : Type 0 where
  pub left : n.loose ≡ false → (t : ℕ) → next ≤ t → t < node_end w n.owner → Among zeros (d.leaves t) × ((MayStand n → next + set_len w n.last ≤ t) → Only zeros (d.leaves t))
  pub read : (t : ℕ) → next ≤ t → t < node_end w n.owner → (n.sent ≡ true → next + set_len w n.last ≤ t) → Among zeros (d.reads t) × ((n.failed ≡ true → next + set_len w n.last ≤ t) → Only zeros (d.reads t))

pub among_besides : (o : Option Value) (v : Value) (old : List Value) → Among v old → Among v (besides o old)
among_besides None v old i = i
among_besides (Some x) v old i = inr i

only_zeros : Only zeros (zeros ∷ [])
only_zeros x (inl e) = e
only_zeros x (inr n) = absurd n

-- what is written where something stands, is read there
read_instead : (p : ℕ) (values : List Value) (d : Content) (t : ℕ) → at_run p values t ≡ Some zeros → Among zeros ((written p values d).reads t) × Only zeros ((written p values d).reads t)
read_instead p values d t is =
    subst (λ (o : Option Value). Among zeros (instead o (d.reads t)) × Only zeros (instead o (d.reads t))) (sym is) (inl refl, only_zeros)

-- the device changes elsewhere
pub blank_off : (w : Layout) (old new : Content) (n : Node) (next : ℕ) → ((t : ℕ) → next ≤ t → t < node_end w n.owner → Off old new t) → Blank w old n next → Blank w new n next
blank_off w old new n next same h = record {
  left = λ known t ge lt. subst (λ (vs : List Value). Among zeros vs × ((MayStand n → next + set_len w n.last ≤ t) → Only zeros vs)) (sym (same t ge lt).1) (h.left known t ge lt);
  read = λ t ge lt sent. subst (λ (vs : List Value). Among zeros vs × ((n.failed ≡ true → next + set_len w n.last ≤ t) → Only zeros vs)) (sym (same t ge lt).0) (h.read t ge lt sent);
}

-- where a crash image has zeros behind what stands and what may stand
pub blank_there : (w : Layout) (d : Content) (n : Node) (next : ℕ) (c : Image) → Blank w d n next → n.loose ≡ false → MayLeave d c → (t : ℕ) → next ≤ t → t < node_end w n.owner → (MayStand n → next + set_len w n.last ≤ t) → c t ≡ zeros
blank_there w d n next c h known left t ge lt behind = (h.left known t ge lt).1 behind (c t) (left t)

-- ---- after a barrier

no_true : (b : Bool) → b ≡ true → b ≡ false → ⊥
no_true b x y = absurd (cc)

pub settled_sent : (w : Layout) (d : Content) (n : Node) (next : ℕ) → n.sent ≡ true → Blank w d n next
    → Blank w (settled d) (record { loose = false; owner = n.owner; sets = n.last ∷ n.sets; last = n.last; sent = false; failed = false }) (next + set_len w n.last)
settled_sent w d n next is h = record {
  left = λ known t ge lt. let r = h.read t (omega arith) lt (λ _. ge) in (r.0, λ _. r.1 (λ _. ge));
  read = λ t ge lt sent. let r = h.read t (omega arith) lt (λ _. ge) in (r.0, λ _. r.1 (λ _. ge));
}

pub settled_still : (w : Layout) (d : Content) (n : Node) (next : ℕ) → n.sent ≡ false → Blank w d n next
    → Blank w (settled d) (record { loose = n.loose; owner = n.owner; sets = n.sets; last = n.last; sent = false; failed = n.failed }) next
settled_still w d n next is h = record {
  left = λ known t ge lt. let r = h.read t ge lt (λ e. absurd (no_true n.sent e is)) in (r.0, λ stand. r.1 (λ e. stand (inr e)));
  read = λ t ge lt sent. h.read t ge lt (λ e. absurd (no_true n.sent e is));
}

-- ---- a further set, written well or not

module _ (w : Layout) (d : Content) (n : Node) (set : NodeSet) (next : ℕ) (vs : List Value) (long : length vs ≡ set_len w set)
    (known : n.loose ≡ false) (unsent : n.sent ≡ false) (well : n.failed ≡ false) (h : Blank w d n next) where
  old_left : (t : ℕ) → next ≤ t → t < node_end w n.owner → Among zeros (d.leaves t) × Only zeros (d.leaves t)
  old_left t ge lt = let l = h.left known t ge lt in (l.0, l.1 (λ stand. absurd (elim stand [ inl e ↦ no_true n.sent e unsent | inr e ↦ no_true n.failed e well ])))

  old_read : (t : ℕ) → next ≤ t → t < node_end w n.owner → Among zeros (d.reads t) × Only zeros (d.reads t)
  old_read t ge lt = let r = h.read t ge lt (λ e. absurd (no_true n.sent e unsent)) in (r.0, r.1 (λ e. absurd (no_true n.failed e well)))

  behind_off : (t : ℕ) → next + set_len w set ≤ t → Off d (written next vs d) t
  behind_off t ge = off_run d next vs t (λ r. let r1 = r.1 in omega (arith, r1, ge, long))

  behind_failed : (t : ℕ) → next + set_len w set ≤ t → Off d (failed next vs d) t
  behind_failed t ge = off_failed d next vs t (λ r. let r1 = r.1 in omega (arith, r1, ge, long))

  pub sent_blank : Blank w (written next vs d) (sent_node set n) next
  sent_blank = record {
    left = λ _ t ge lt. (among_besides (at_run next vs t) zeros (d.leaves t) (old_left t ge lt).0, λ stand. subst (Only zeros) (sym (behind_off t (stand (inl refl))).1) (old_left t ge lt).1);
    read = λ t ge lt sent. let off = (behind_off t (sent refl)).0 in (subst (Among zeros) (sym off) (old_read t ge lt).0, λ _. subst (Only zeros) (sym off) (old_read t ge lt).1);
  }

  pub failed_blank : Blank w (failed next vs d) (failed_node set n) next
  failed_blank = record {
    left = λ _ t ge lt. (among_besides (at_run next vs t) zeros (d.leaves t) (old_left t ge lt).0, λ stand. subst (Only zeros) (sym (behind_failed t (stand (inr refl))).1) (old_left t ge lt).1);
    read = λ t ge lt sent. (among_besides (at_run next vs t) zeros (d.reads t) (old_read t ge lt).0, λ fell. subst (Only zeros) (sym (behind_failed t (fell refl)).0) (old_read t ge lt).1);
  }

-- and a node's first write
pub new_blank : (w : Layout) (d : Content) (o : Owner) (set : NodeSet) (values : List Value) → IsFirstWrite w o set values → w.begins o + set_len w set ≤ node_end w o
    → Blank w (written (w.begins o) values d) (new_node o set) (w.begins o)
new_blank w d o set values first room = record {
  left = λ e. absurd (no_true true refl e);
  read = λ t ge lt sent. let r = read_instead (w.begins o) values d t (first_zeros w o set values first room t (sent refl) lt) in (r.0, λ _. r.1);
}
