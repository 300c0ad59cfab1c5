use Rattle.bc_session_rows.proofs.places.try_two.Goals as goal

pub try_store-requires-clause-own : goal.try_store-requires-clause-own
try_store-requires-clause-own g c =
    c.pins_of-both.ensures.keeps c.in_ok-second.second c.in_ok-second.ensures.own

pub try_unpin-requires-clause-own : goal.try_unpin-requires-clause-own
try_unpin-requires-clause-own g c = c.try_store.ensures.keeps c.in_ok-first.first
    (c.pins_of-both.ensures.keeps c.in_ok-first.first
    (c.in_ok-second.ensures.keeps c.in_ok-first.first c.in_ok-first.ensures.own))

pub try_unpin-requires-2-clause-own : goal.try_unpin-requires-2-clause-own
try_unpin-requires-2-clause-own g c = c.pins_of-one.ensures.keeps c.in_ok-second.second
    (c.try_unpin.ensures.keeps c.in_ok-second.second (c.are_apart.ensures c.if-not-are_apart.false)
    (c.try_store.ensures.keeps c.in_ok-second.second
    (c.pins_of-both.ensures.keeps c.in_ok-second.second c.in_ok-second.ensures.own)))
