pub mod PhaseLaws
