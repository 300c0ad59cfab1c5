-- What acts leave of the journal's share.
use Rattle.std.proofs.Common.{◌≡◌, ℕ, ◌+◌, ◌≤◌, List, ◌∷◌, Some, refl, sym, ap, ◌∙◌, arith}
use Rattle.bc_known.specs.Acts.{Seal, State, after}
use Rattle.bc_meta.specs.Entries.{Entry}
use Rattle.bc_meta.specs.Layout.{entry_len}
use Rattle.bc_meta.specs.Records.{Stage, Nothing, Fixed, Ready, Sent, Safe, Records, put}
use Rattle.bc_shares.specs.Shares.{if_sealed, journal_share}
use Rattle.bc_whole.specs.State.{Chain, NewChain, NewRoot, Opening, Root, SameChain, SameRoot}
use Rattle.bc_whole.specs.Together.{entry_of}
use Rattle.bc_sealing.specs.Laws.{LawActs, Seals}

sealed_is : (g : Stage) (d e : Entry) → if_sealed g d ≡ Some e → d ≡ e
sealed_is Nothing d e is = absurd (cc)
sealed_is Fixed d e is = cc
sealed_is Ready d e is = cc
sealed_is Sent d e is = cc
sealed_is Safe d e is = cc

seals : (w : Opening) (st : State) (i last_seq : ℕ) (rest : List ℕ) (root : Root) (chain : Chain)
    → Seals (entry_of st.whole last_seq rest root chain) (journal_share st)
    (journal_share (after w st i (Seal last_seq rest root chain)))
seals w st i last_seq rest SameRoot SameChain =
    record {
      waiting = refl;
      count = omega arith;
      sealed = refl;
      newest = refl;
      bucket = refl;
      ring = refl;
      next = refl;
    }
seals w st i last_seq rest SameRoot (NewChain buckets gens) =
    record {
      waiting = refl;
      count = omega arith;
      sealed = refl;
      newest = refl;
      bucket = refl;
      ring = refl;
      next = refl;
    }
seals w st i last_seq rest (NewRoot slot) SameChain =
    record {
      waiting = refl;
      count = omega arith;
      sealed = refl;
      newest = refl;
      bucket = refl;
      ring = refl;
      next = refl;
    }
seals w st i last_seq rest (NewRoot slot) (NewChain buckets gens) =
    record {
      waiting = refl;
      count = omega arith;
      sealed = refl;
      newest = refl;
      bucket = refl;
      ring = refl;
      next = refl;
    }

pub law_acts : LawActs
law_acts = record {
  begins = λ w st i b.
      record { sealed = refl; newest = refl; bucket = refl; ring = refl; next = refl };
  seals = seals;
  ends = λ w st i e agree is.
      let r = st.whole.parts.records in
      let p = st.whole.store.places in
      let entry = sealed_is r.stage r.entry e is in record {
        waiting = refl;
        count = refl;
        all = refl;
        sealed = refl;
        newest = entry;
        bucket = refl;
        ring = ap (λ (d : Entry). put r.ring r.bucket (d ∷ r.ring r.bucket)) entry;
        next = ap (λ (q : Records). put p.ring_next q.bucket
            (p.ring_next q.bucket + entry_len w.layout q.entry)) (sym agree)
            ∙ ap (λ (d : Entry).
            put p.ring_next r.bucket (p.ring_next r.bucket + entry_len w.layout d)) entry;
      };
}
