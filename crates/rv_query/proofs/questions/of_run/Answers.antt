use Rattle.rv_query.proofs.questions.of_run.Goals as goal

pub returns-clause-cells : goal.returns-clause-cells
returns-clause-cells c p cell step =
    c.answers_are_of_run.ensures.cells c.args.program.now.elf c.args.program.now.input p cell step c.image-image.ensures.faultless c.image-image.ensures.bytes c.input-input.ensures.bytes
