use Rattle.pr_num.proofs.round.+product_by_bits.Given as goal

abbrev pub decreases-product_by_bits : goal.decreases-product_by_bits
decreases-product_by_bits l = l.b
