use Rattle.rv_judge.proofs.sums.Totals.sums.Goals as goal

pub returns : goal.returns
returns g c = λ i. record { reads = c.total.ensures i; writes = c.total-2.ensures i }
