mod MakingLaws
mod StartLaws
