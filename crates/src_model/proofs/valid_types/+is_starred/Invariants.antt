use Rattle.src_model.proofs.valid_types.+is_starred.Given as goal

abbrev pub decreases-is_starred : goal.decreases-is_starred
decreases-is_starred l = l.stars
