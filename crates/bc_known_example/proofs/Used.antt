-- The run that rewrote a leaf goes on: a key is dropped, the write of its entry fails, and other
-- seats' calls come late.
use Rattle.std.proofs.Common.{true, List, [], ◌∷◌, None, refl, arith}
use Rattle.bc_books.specs.Index as books
use Rattle.bc_data.specs.Data as flow
use Rattle.bc_whole.specs.State.{OfEntry, Outside, SameRoot, SameChain}
use Rattle.bc_whole.specs.State as whole
use Rattle.bc_whole.specs.Run as whole_run
use Rattle.bc_whole.proofs.Toy.{gap_key}
use Rattle.bc_whole.proofs.Start.{opening}
use Rattle.bc_whole.proofs.Used.{blank_value, drops, lates}
use Rattle.bc_known.specs.Acts.{Act, Alone, Keyed, WriteCache, FailCache, CacheBarrier, Seal, Event}
use Rattle.bc_known.specs.Run.{IsEnabled}
use Rattle.bc_known_example.proofs.Leads.{Leads, at, one, stay, go}
use Rattle.bc_known_example.proofs.Rewritten.{w12}

abbrev gap_book : books.Key
gap_book = record { first = 5; count = 1; kind = None; place = 0; version = 0 }

abbrev gap_insert : flow.Act
gap_insert = flow.Insert flow.DropKeys 2 (gap_book ∷ [])

abbrev release_act : Act
release_act = Alone flow.Release

abbrev claim_act : Act
claim_act = Alone (flow.MakeClaim 5 1 true)

abbrev gap_act : Act
gap_act = Keyed gap_insert 2 (gap_key ∷ [])

abbrev last_act : Act
last_act = Seal 1 [] SameRoot SameChain

abbrev entry_act : Act
entry_act = WriteCache OfEntry ((5 ∷ []) ∷ [])

abbrev fault_act : Act
fault_act = FailCache OfEntry ((5 ∷ []) ∷ [])

abbrev outside_act : Act
outside_act = WriteCache (Outside 44) (blank_value ∷ [])

abbrev late_entry : Event
late_entry = record { seat = 2; act = entry_act }

abbrev late_barrier : Event
late_barrier = record { seat = 3; act = CacheBarrier }

abbrev late_outside : Event
late_outside = record { seat = 4; act = outside_act }

abbrev w13 : whole.State
w13 = whole_run.after opening w12 1 (whole.Alone flow.Release)

abbrev w14 : whole.State
w14 = whole_run.after opening w13 1 (whole.Alone (flow.MakeClaim 5 1 true))

abbrev w15 : whole.State
w15 = whole_run.after opening w14 1 (whole.Keyed gap_insert 2 (gap_key ∷ []))

abbrev w16 : whole.State
w16 = whole_run.after opening w15 1 (whole.Seal 1 [] SameRoot SameChain)

abbrev w17 : whole.State
w17 = whole_run.after opening w16 1 whole.CacheBarrier

abbrev w18 : whole.State
w18 = whole_run.after opening w17 1 (whole.FailCache OfEntry ((5 ∷ []) ∷ []))

abbrev w19 : whole.State
w19 = whole_run.after opening w18 2 (whole.WriteCache OfEntry ((5 ∷ []) ∷ []))

abbrev w20 : whole.State
w20 = whole_run.after opening w19 3 whole.CacheBarrier

abbrev pub w21 : whole.State
w21 = whole_run.after opening w20 4 (whole.WriteCache (Outside 44) (blank_value ∷ []))

abbrev pub dropping : List Event
dropping = one release_act ∷ one claim_act ∷ one gap_act ∷ one last_act ∷ one CacheBarrier ∷ one fault_act ∷ late_entry ∷ late_barrier ∷ late_outside ∷ []

known_13 : IsEnabled opening (at w12 11) 1 release_act
known_13 = record { data_allows = drops.0.flow; asks = refl }

known_14 : IsEnabled opening (at w13 11) 1 claim_act
known_14 = record { data_allows = drops.1.0.flow; asks = refl }

known_15 : IsEnabled opening (at w14 11) 1 gap_act
known_15 = let on = drops.1.1.0 in record { data_allows = on.flow; asks = (on.together, refl, (((omega arith), (omega arith)), tt)) }

known_16 : IsEnabled opening (at w15 11) 1 last_act
known_16 = let on = drops.1.1.1.0 in record { data_allows = on.flow; asks = (on.store.1.0, tt) }

known_17 : IsEnabled opening (at w16 11) 1 CacheBarrier
known_17 = record { data_allows = drops.1.1.1.1.0.flow; asks = tt }

known_18 : IsEnabled opening (at w17 11) 1 fault_act
known_18 = record { data_allows = drops.1.1.1.1.1.0.flow; asks = (refl, (refl, (omega arith))) }

known_19 : IsEnabled opening (at w18 11) 2 entry_act
known_19 = record { data_allows = lates.0.flow; asks = (refl, (refl, (omega arith))) }

known_20 : IsEnabled opening (at w19 11) 3 CacheBarrier
known_20 = record { data_allows = lates.1.0.flow; asks = tt }

known_21 : IsEnabled opening (at w20 11) 4 outside_act
known_21 = let on = lates.1.1.0 in record { data_allows = on.flow; asks = on.store.2 }

pub drops_on : Leads (at w12 11) dropping (at w21 11)
drops_on = go (at w12 11) (one release_act) (at w13 11) known_13 refl
    (go (at w13 11) (one claim_act) (at w14 11) known_14 refl
    (go (at w14 11) (one gap_act) (at w15 11) known_15 refl
    (go (at w15 11) (one last_act) (at w16 11) known_16 refl
    (go (at w16 11) (one CacheBarrier) (at w17 11) known_17 refl
    (go (at w17 11) (one fault_act) (at w18 11) known_18 refl
    (go (at w18 11) late_entry (at w19 11) known_19 refl
    (go (at w19 11) late_barrier (at w20 11) known_20 refl
    (go (at w20 11) late_outside (at w21 11) known_21 refl stay))))))))
