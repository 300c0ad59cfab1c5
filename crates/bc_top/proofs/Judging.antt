-- What a pair with a cache is answered.
use Rattle.std.specs.Prelude.{Result, Ok, Err, IfErr, IsErrAnd}
use Rattle.std.proofs.Common.{◌≡◌, ◌⊎◌, inl, inr, ℕ, ◌≤◌, List, [], Option, Some, None, refl, sym, ap, ◌∙◌, subst, arith}
use Rattle.bc_model.specs.Sector.{Image}
use Rattle.bc_disk.specs.Device.{HasRisen, next_count}
use Rattle.bc_disk.specs.Disk.{BothTold, DiskFacts, IfTold}
use Rattle.bc_disk.specs.Stream.{BothToldText, StreamFacts}
use Rattle.bc_disk.specs.declared.disk.Device.TheVariants as device
use Rattle.bc_image.specs.Pair.{Pair}
use Rattle.bc_image.specs.Sound.{ServesAlone}
use Rattle.bc_image.proofs.Supers.{backing_read}
use Rattle.bc_output.specs.Message.{message_text}
use Rattle.bc_pair.specs.Found.{pair_of}
use Rattle.bc_replay.specs.Causes.{CountsFault, EndsAtSupers, OfHeld}
use Rattle.bc_replay.specs.Survey.{CanBeOpened, IsFirst, IsSurveyCause}
use Rattle.bc_replay.specs.declared.error.OpenError.{OpenError}
use Rattle.bc_replay.specs.declared.error.OpenError.TheVariants as errors
use Rattle.bc_replay.proofs.Ends.{end_before}
use Rattle.bc_replay.proofs.Once.{never_both, one_refusal}
use Rattle.bc_replay.proofs.Opens.{held_map}
use Rattle.bc_replay.proofs.Pairs.{backing_refused, of_both}
use Rattle.bc_script.specs.Trace.{IsWhole, SpellAll, lines_of}
use Rattle.bc_script.specs.declared.line.Line.{Line}
use Rattle.bc_script.proofs.OneReading.{one_script}
use Rattle.bc_super.specs.Division.{IsPassThrough}
use Rattle.bc_super.specs.Reading.{ReadsSuper}
use Rattle.bc_super.specs.declared.backing.BackingSuper.{BackingSuper}
use Rattle.bc_output.specs.declared.status.Status.{Status}
use Rattle.bc_output.specs.declared.status.Status.TheVariants as statuses
use Rattle.bc_top.specs.Ended.{IsPutOf}
use Rattle.bc_super.proofs.Told.{reads_before}
use Rattle.bc_top.specs.Opened.{AreQuiet, AreStill, AsksForCache, IsAnswerTo, IsLoneCause, IsOpened, IsOpeningCause, IsPairCause, IsSameDevice, LeavesLess, SameImage}
use Rattle.bc_top.specs.Stops.{message_of, status_of, open_stop}
use Rattle.bc_top.specs.Top.{AnswersPair, AreSame, AskMore, EndsAnswering, IsServeCause, OneHasRisen, SpellsTrace}
use Rattle.bc_top.specs.declared.stop.Stop.{Stop}
use Rattle.bc_top.specs.declared.stop.Stop.TheVariants as stop
use Rattle.bc_top.proofs.Completing.{never_refused}
use Rattle.bc_top.proofs.Settled.{both_same, next_risen}

-- ---- the lines that the source tells

spelled_as : (a b : Option (List ℕ)) (text : List ℕ) (lines : List Line) → a ≡ Some text
    → BothToldText (λ text left. (left ≡ []) × SpellAll (lines_of text) lines) a b
    → SpellAll (lines_of text) lines
spelled_as None b text lines is both = absurd (cc)
spelled_as (Some x) None text lines is both = absurd both
spelled_as (Some x) (Some y) text lines is both =
    let same : x ≡ text = cc in subst (λ (t : List ℕ). SpellAll (lines_of t) lines) same both.1

pub same_lines : (source left : StreamFacts) (lines : List Line) → IsWhole source left lines
    → (spelled : SpellsTrace source) → lines ≡ spelled.2.0
same_lines source left lines whole spelled = one_script (lines_of spelled.0) lines spelled.2.0
    (spelled_as source.text left.text spelled.0 lines spelled.1 whole.0) spelled.2.1

-- ---- the pair that two devices hold

pub held_all : (P : Pair → Type 0) (cache backing : DiskFacts) → ((p : Pair) → P p) → OfHeld P cache backing
held_all P cache backing f = of_both P cache backing (λ c b tells told. f (pair_of cache backing c b))

abbrev pair_with : Image → ℕ → Image → ℕ → Pair
pair_with c n b m = record { cache = c; cache_sectors = n; backing = b; backing_sectors = m }

-- what holds of the pair of two devices that were kept held of the pair before
pub held_before : (P : Pair → Type 0) (cache cache' backing backing' : DiskFacts) → cache'.sectors ≡ cache.sectors → BothTold SameImage cache.holds cache'.holds → backing'.sectors ≡ backing.sectors → BothTold SameImage backing.holds backing'.holds
    → OfHeld P cache' backing' → OfHeld P cache backing
held_before P cache cache' backing backing' size kept size' kept' = by cache.holds cache'.holds backing.holds backing'.holds kept kept'
  where
    by : (x x' y y' : Option Image) → BothTold SameImage x x' → BothTold SameImage y y' → IfTold x' (λ c. IfTold y' (λ b. P (pair_with c cache'.sectors b backing'.sectors)))
        → IfTold x (λ c. IfTold y (λ b. P (pair_with c cache.sectors b backing.sectors)))
    by None x' y y' same same' holds = tt
    by (Some c) None y y' same same' holds = absurd same
    by (Some c) (Some c') None y' same same' holds = tt
    by (Some c) (Some c') (Some b) None same same' holds = absurd same'
    by (Some c) (Some c') (Some b) (Some b') same same' holds =
        let one : c' ≡ c = (λ i. λ s. same s i) in
        let other : b' ≡ b = (λ i. λ s. same' s i) in
        subst (λ n. P (pair_with c n b backing.sectors)) size
        (subst (λ n. P (pair_with c cache'.sectors b n)) size'
        (subst (λ (z : Image). P (pair_with c cache'.sectors z backing'.sectors)) other
        (subst (λ (z : Image). P (pair_with z cache'.sectors b' backing'.sectors)) one holds)))

-- ---- devices of which no sector was written

both_self : (o : Option Image) → BothTold SameImage o o
both_self None = tt
both_self (Some image) = λ s. refl

pub same_again : (a b c : DiskFacts) → IsSameDevice a b → IsSameDevice b c → IsSameDevice a c
same_again a b c first second = record {
  sectors = second.sectors ∙ first.sectors;
  holds = both_same a.holds b.holds c.holds first.holds second.holds;
  leaves = by b.holds c.holds first.leaves second.leaves second.holds;
}
  where
    by : (y z : Option Image) → LeavesLess y a.may_leave b.may_leave → LeavesLess z b.may_leave c.may_leave → BothTold SameImage y z → LeavesLess z a.may_leave c.may_leave
    by y None before less both = tt
    by None (Some held) before less both = absurd both
    by (Some middle) (Some held) before less both = λ image can. elim (less image can) [
      | inl possible ↦ elim (before image possible) [ inl old ↦ inl old | inr is ↦ inr (λ s. is s ∙ sym (both s)) ]
      | inr is ↦ inr is
    ]

-- ---- why a pair is refused

module _ (cache settled cache' backing backing' : DiskFacts) (still : AreStill cache' backing') (size : settled.sectors ≡ cache.sectors) (kept : BothTold SameImage cache.holds settled.holds) (good : settled.faults ≡ cache.faults) where
  pub held_settled : (P : Pair → Type 0) → OfHeld P settled backing → OfHeld P cache backing
  held_settled P = held_before P cache settled backing backing size kept refl (both_self backing.holds)

  pub survey_cause : settled.calls ≡ next_count cache.calls → (e : OpenError) → IsSurveyCause settled backing e → CountsFault e settled cache' backing backing' → EndsAtSupers settled backing settled.calls cache'.calls e → backing'.calls ≡ next_count backing.calls
      → IsPairCause cache cache' backing backing' backing.calls e
  survey_cause calls (errors.Fault device.Cache) cause counts ends again =
      (counts.0 ∙ ap (λ n. next_count n) good, counts.1, still.1, inr (still.0, again))
  survey_cause calls (errors.Fault device.Backing) cause counts ends again =
      (counts.0 ∙ good, counts.1, again, still)
  survey_cause calls errors.Memory cause counts ends again = ((counts.0 ∙ good, counts.1), again, still)
  survey_cause calls e cause counts ends again = (
    held_settled (λ p. IsFirst p e) cause,
    (counts.0 ∙ good, counts.1),
    again,
    end_before cache settled backing backing size kept refl (both_self backing.holds) (next_count cache.calls) cache'.calls e (subst (λ n. EndsAtSupers settled backing n cache'.calls e) calls ends),
    still,
  )

-- the same of a backing device that was opened before
module _ (cache cache' backing opened backing' : DiskFacts) (size : opened.sectors ≡ backing.sectors) (kept : BothTold SameImage backing.holds opened.holds) (good : opened.faults ≡ backing.faults) where
  pub opened_held : (P : Pair → Type 0) → OfHeld P cache opened → OfHeld P cache backing
  opened_held P = held_before P cache cache backing opened refl (both_self cache.holds) size kept

  pub opened_cause : opened.calls ≡ next_count (next_count backing.calls) → (e : OpenError) → IsPairCause cache cache' opened backing' opened.calls e → IsPairCause cache cache' backing backing' (next_count (next_count backing.calls)) e
  opened_cause calls (errors.Fault device.Cache) cause = (
    cause.0,
    cause.1 ∙ good,
    cause.2,
    elim cause.3 [
      | inl first ↦ inl (first.0, first.1 ∙ calls)
      | inr later ↦ inr (later.0, later.1 ∙ ap (λ n. next_count n) calls)
    ],
  )
  opened_cause calls (errors.Fault device.Backing) cause = (
    cause.0,
    cause.1 ∙ ap (λ n. next_count n) good,
    cause.2 ∙ ap (λ n. next_count n) calls,
    cause.3,
  )
  opened_cause calls errors.Memory cause =
      ((cause.0.0, cause.0.1 ∙ good), subst (λ n. backing'.calls ≡ next_count n) calls cause.1, cause.2)
  opened_cause calls e cause = (
    opened_held (λ p. IsFirst p e) cause.0,
    (cause.1.0, cause.1.1 ∙ good),
    subst (λ n. backing'.calls ≡ next_count n) calls cause.2,
    end_before cache cache backing opened refl (both_self cache.holds) size kept (next_count cache.calls) cache'.calls e cause.3,
    cause.4,
  )

-- ---- why a pair isn't opened

-- an error that `?` turned into the end of the call
pub turned : {T : Type 0} (r : Result T Stop) (why : Stop) (Q : Stop → Type 0) → IsErrAnd r (λ x. x ≡ why) → Q why → IfErr r Q
turned (Ok x) why Q is holds = tt
turned (Err x) why Q is holds = subst Q (sym is) holds

module _ (cache cache' backing opened backing' : DiskFacts) (s : BackingSuper) (is : IsOpened s backing opened) (never : IsPassThrough s → ⊥) where
  asks : AsksForCache backing
  asks = (s, reads_before backing opened is.sectors is.holds s is.reads, never)

  pub opening_refused : (e : OpenError) → IsPairCause cache cache' opened backing' opened.calls e → IsOpeningCause cache cache' backing backing' (open_stop e)
  opening_refused e cause = inr (asks, inl (e, refl, opened_cause cache cache' backing opened backing' is.sectors is.holds is.faults is.calls e cause))

  pub opening_unserved : OfHeld CanBeOpened cache opened → AreQuiet cache cache' opened backing' → backing'.calls ≡ next_count opened.calls → AreStill cache' backing' → IsOpeningCause cache cache' backing backing' stop.Unserved
  opening_unserved can quiet again still =
      inr (asks, inr (refl, opened_held cache cache' backing opened backing' is.sectors is.holds is.faults CanBeOpened can, (quiet.0, quiet.1 ∙ is.faults), subst (λ n. backing'.calls ≡ next_count n) is.calls again, still))

-- a device that has a superblock has room for it
pub has_room : (d : DiskFacts) (s : BackingSuper) → ReadsSuper d s → 16 ≤ d.sectors
has_room d s reads = let begins = reads.2.usable.data_offset in let low = begins.0 in let high = begins.1 in omega arith

-- ---- what is answered

module _ (cache cache' backing backing' : DiskFacts) (same : AreSame cache cache' backing backing') (still : OneHasRisen cache cache' backing backing' → ⊥) where
  abbrev Answers : Stop → Pair → Type 0
  Answers why p = (why ≡ stop.Memory) ⊎ IsAnswerTo p why

  lone_first : (e : OpenError) → IsLoneCause e backing backing' → OfHeld (λ p. IsFirst p e) cache backing
  lone_first (errors.Fault device.Backing) cause =
      absurd (still (inr (next_risen backing.faults backing'.faults cause.0)))
  lone_first (errors.Super device.Backing why) refuses =
      held_before (λ p. IsFirst p (errors.Super device.Backing why)) cache cache' backing backing' same.0.sectors same.0.holds same.1.sectors same.1.holds
      (of_both (λ p. IsFirst p (errors.Super device.Backing why)) cache' backing' (λ c b tells told. inl (backing_refused cache' backing' c b tells told why refuses.0)))
  lone_first e cause = absurd cause

  pair_first : (calls : ℕ) (why : Stop) (e : OpenError) → why ≡ open_stop e → IsPairCause cache cache' backing backing' calls e → OfHeld (Answers why) cache backing
  pair_first calls why (errors.Fault device.Cache) is cause =
      absurd (still (inl (next_risen cache.faults cache'.faults cause.0)))
  pair_first calls why (errors.Fault device.Backing) is cause =
      absurd (still (inr (next_risen backing.faults backing'.faults cause.1)))
  pair_first calls why errors.Memory is cause = held_all (Answers why) cache backing (λ p. inl is)
  pair_first calls why e is cause = held_map (λ p. IsFirst p e) (Answers why) cache backing (λ p first. inr (inl (e, first, is))) cause.0

  answers : (why : Stop) → IsOpeningCause cache cache' backing backing' why → OfHeld (Answers why) cache backing
  answers why (inl lone) = held_map (λ p. IsFirst p lone.0) (Answers why) cache backing (λ p first. inr (inl (lone.0, first, lone.1))) (lone_first lone.0 lone.2)
  answers why (inr (asked, inl refused)) = pair_first (next_count (next_count backing.calls)) why refused.0 refused.1 refused.2
  answers why (inr (asked, inr none)) = held_map CanBeOpened (Answers why) cache backing (λ p can. inr (inr ((λ e first. never_both p can.0 can.1 can.2 e first), none.0))) none.1

  served : (source left : StreamFacts) (why : Stop) → SpellsTrace source → (HasRisen source.faults left.faults → ⊥) → IsServeCause why source left cache cache' backing backing' → OfHeld (Answers why) cache backing
  served source left stop.Usage spells quiet cause = absurd cause
  served source left (stop.Trace e) spells quiet cause = absurd (never_refused source left e spells cause.0)
  served source left stop.Source spells quiet cause = absurd (quiet cause.0)
  served source left stop.Memory spells quiet cause = held_all (Answers stop.Memory) cache backing (λ p. inl refl)
  served source left why spells quiet cause = answers why cause.1

-- a pair has one answer at most
pub same_answer : (p : Pair) (a b : Stop) → IsAnswerTo p a → IsAnswerTo p b → a ≡ b
same_answer p a b (inl x) (inl y) = x.2 ∙ ap (λ (e : OpenError). open_stop e) (one_refusal p x.0 y.0 x.1 y.1) ∙ sym y.2
same_answer p a b (inl x) (inr y) = absurd (y.0 x.0 x.1)
same_answer p a b (inr x) (inl y) = absurd (x.0 y.0 y.1)
same_answer p a b (inr x) (inr y) = x.1 ∙ sym y.1

is_told : (e : OpenError) → stop.Unserved ≡ open_stop e → ⊥
is_told (errors.Super d why) is = absurd (cc)
is_told e is = absurd (cc)

pub unserved_none : (p : Pair) → IsAnswerTo p stop.Unserved → (e : OpenError) → IsFirst p e → ⊥
unserved_none p (inl x) = absurd (is_told x.0 x.2)
unserved_none p (inr x) = x.0

-- a call that ended so before its run has answered the pair
pub stopped_answers : (begun : Type 0) (cache cache' backing backing' : DiskFacts) → AreSame cache cache' backing backing' → (source left : StreamFacts) (why : Stop) → IsServeCause why source left cache cache' backing backing'
    → (status : Status) (old new : StreamFacts) → status ≡ status_of why → IsPutOf (message_text (message_of why)) old new → AnswersPair source left cache cache' backing backing' begun status old new
stopped_answers begun cache cache' backing backing' same source left why cause status old new is put = λ spelled quiet still.
    held_map (λ p. (why ≡ stop.Memory) ⊎ IsAnswerTo p why) (λ p. (ServesAlone p → ⊥) → EndsAnswering p spelled.2.0 begun status old new) cache backing (λ p answered never. ends spelled p answered)
    (served cache cache' backing backing' same still source left why spelled quiet cause)
  where
    asked : (spelled : SpellsTrace source) → why ≡ stop.Unserved → AskMore spelled.2.0
    asked spelled unserved =
        let read = (subst (λ (x : Stop). IsServeCause x source left cache cache' backing backing') unserved cause).0 in
        subst AskMore (same_lines source left read.0 read.2 spelled) read.3

    ends : (spelled : SpellsTrace source) (p : Pair) → (why ≡ stop.Memory) ⊎ IsAnswerTo p why → EndsAnswering p spelled.2.0 begun status old new
    ends spelled p (inl memory) = inl (is ∙ (let nine : status_of why ≡ statuses.Memory = subst (λ (x : Stop). status_of x ≡ statuses.Memory) (sym memory) refl in nine))
    ends spelled p (inr answer) = inr (inl (why, answer, asked spelled, is, put))

-- nor does one that had no memory answer otherwise
pub nine_answers : (begun : Type 0) (source left : StreamFacts) (cache cache' backing backing' : DiskFacts) (status : Status) (old new : StreamFacts) → status ≡ statuses.Memory → AnswersPair source left cache cache' backing backing' begun status old new
nine_answers begun source left cache cache' backing backing' status old new nine = λ spelled quiet still. held_all (λ p. (ServesAlone p → ⊥) → EndsAnswering p spelled.2.0 begun status old new) cache backing (λ p never. inl nine)

-- where a run began the backing device serves alone
pub alone_answers : (begun : Type 0) (source left : StreamFacts) (cache cache' backing backing' : DiskFacts) (s : BackingSuper) → ReadsSuper backing s → IsPassThrough s → (status : Status) (old new : StreamFacts) → AnswersPair source left cache cache' backing backing' begun status old new
alone_answers begun source left cache cache' backing backing' s reads alone status old new = λ spelled quiet still.
    of_both (λ p. (ServesAlone p → ⊥) → EndsAnswering p spelled.2.0 begun status old new) cache backing (λ c b tells told never.
    absurd (never (s, backing_read backing (pair_of cache backing c b) s told refl (has_room backing s reads) reads, alone)))
