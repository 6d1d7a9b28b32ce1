use Rattle.src_model.proofs.valid_types.+is_function_starred.Given as goal

abbrev pub decreases-is_function_starred : goal.decreases-is_function_starred
decreases-is_function_starred l = l.stars
