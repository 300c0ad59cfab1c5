use Rattle.bc_replay.proofs.index.IndexGather.take.Goals as goal

pub returns-clause-took : goal.returns-clause-took
returns-clause-took c = λ keys indexed. record { last = c.in_ok-add_sets.ensures keys indexed.last; first = c.word_with_sets-self.ensures keys indexed.first }
