pub mod DivRemLaws
