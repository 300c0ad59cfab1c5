-- The run goes on: data is written to the raised bucket, its key comes into the new leaf and is
-- durable, and the write is acknowledged as forced.
use Rattle.std.proofs.Common.{true, List, [], ◌∷◌, refl, arith}
use Rattle.bc_books.specs.Shelves.{Plain}
use Rattle.bc_books.specs.Books as book
use Rattle.bc_data.specs.Data as flow
use Rattle.bc_whole.specs.State.{OfData, OfEntry, SameRoot, SameChain}
use Rattle.bc_whole.proofs.Toy.{stored_key}
use Rattle.bc_whole.proofs.Start.{opening}
use Rattle.bc_whole.proofs.Grown.{s17}
use Rattle.bc_whole.proofs.Stored.{s18, s19, s20, s21, s22, s23, s24, s25, s26, s27, s28, nine, book_key, stores}
use Rattle.bc_known.specs.Acts.{Act, Alone, Keyed, WriteCache, CacheBarrier, Seal, MakeDurable, Event}
use Rattle.bc_known.specs.Run.{IsEnabled}
use Rattle.bc_known_example.proofs.Leads.{Leads, at, one, stay, go}

abbrev pub take_act : Act
take_act = Alone (flow.Shelve (book.Take 1 Plain 7))

abbrev pub pin_act : Act
pin_act = Alone (flow.PinPlaces 28 2)

abbrev pub data_act : Act
data_act = WriteCache (OfData 7 28) (nine ∷ [])

abbrev pub claim_act : Act
claim_act = Alone (flow.MakeClaim 0 1 true)

abbrev pub key_act : Act
key_act = Keyed (flow.InsertWrite 5 1 (book_key ∷ []) 0 (nine ∷ [])) 1 (stored_key ∷ [])

abbrev pub keep_act : Act
keep_act = Seal 1 [] SameRoot SameChain

abbrev pub third_act : Act
third_act = WriteCache OfEntry ((3 ∷ []) ∷ [])

abbrev pub answer_act : Act
answer_act = Alone (flow.Say (flow.Acknowledge 5 0 1))

abbrev pub storing : List Event
storing = one take_act ∷ one pin_act ∷ one data_act ∷ one claim_act ∷ one key_act ∷ one keep_act
    ∷ one CacheBarrier ∷ one third_act ∷ one CacheBarrier ∷ one MakeDurable ∷ one answer_act ∷ []

known_17 : IsEnabled opening (at s17 9) 1 take_act
known_17 = record { data_allows = stores.0.flow; asks = refl }

known_18 : IsEnabled opening (at s18 9) 1 pin_act
known_18 = record { data_allows = stores.1.0.flow; asks = refl }

known_19 : IsEnabled opening (at s19 9) 1 data_act
known_19 = record {
  data_allows = stores.1.1.0.flow;
  asks = record {
    some = λ e. cc;
    low = omega arith;
    high = omega arith;
    bucket = omega arith;
  };
}

known_20 : IsEnabled opening (at s20 9) 1 claim_act
known_20 = record { data_allows = stores.1.1.1.0.flow; asks = refl }

known_21 : IsEnabled opening (at s21 9) 1 key_act
known_21 = record {
  data_allows = stores.1.1.1.1.0.flow;
  asks = (stores.1.1.1.1.0.together, refl, (((omega arith), (omega arith)), tt));
}

known_22 : IsEnabled opening (at s22 9) 1 keep_act
known_22 = record { data_allows = stores.1.1.1.1.1.0.flow; asks = (stores.1.1.1.1.1.0.store.1.0, tt) }

known_23 : IsEnabled opening (at s23 9) 1 CacheBarrier
known_23 = record { data_allows = stores.1.1.1.1.1.1.0.flow; asks = tt }

known_24 : IsEnabled opening (at s24 9) 1 third_act
known_24 = record { data_allows = stores.1.1.1.1.1.1.1.0.flow; asks = (refl, (refl, (omega arith))) }

known_25 : IsEnabled opening (at s25 9) 1 CacheBarrier
known_25 = record { data_allows = stores.1.1.1.1.1.1.1.1.0.flow; asks = tt }

known_26 : IsEnabled opening (at s26 9) 1 MakeDurable
known_26 = record { data_allows = stores.1.1.1.1.1.1.1.1.1.0.flow; asks = refl }

known_27 : IsEnabled opening (at s27 9) 1 answer_act
known_27 = record { data_allows = stores.1.1.1.1.1.1.1.1.1.1.0.flow; asks = refl }

pub stores_on : Leads (at s17 9) storing (at s28 9)
stores_on = go (at s17 9) (one take_act) (at s18 9) known_17 refl
    (go (at s18 9) (one pin_act) (at s19 9) known_18 refl
    (go (at s19 9) (one data_act) (at s20 9) known_19 refl
    (go (at s20 9) (one claim_act) (at s21 9) known_20 refl
    (go (at s21 9) (one key_act) (at s22 9) known_21 refl
    (go (at s22 9) (one keep_act) (at s23 9) known_22 refl
    (go (at s23 9) (one CacheBarrier) (at s24 9) known_23 refl
    (go (at s24 9) (one third_act) (at s25 9) known_24 refl
    (go (at s25 9) (one CacheBarrier) (at s26 9) known_25 refl
    (go (at s26 9) (one MakeDurable) (at s27 9) known_26 refl
    (go (at s27 9) (one answer_act) (at s28 9) known_27 refl stay))))))))))
